use Rattle.file_pieces.proofs.Common.{arith, ◌≡◌, ◌+◌, ℕ, List, [], cond, refl, ◌∙◌, sym, rules, common_steps, words_here}
use Rattle.file_pieces.proofs.FileLineLemmas.{text_found, text_blank, ends_text}
use Rattle.file_pieces.proofs.file_lines.end_text.Goals as goal

pub returns-then-has_words-clause-line : goal.returns-then-has_words-clause-line
returns-then-has_words-clause-line c = λ first all on.
    let number : ℕ = c.args.number.now in
    let short : List (List ℕ) = words_here c.finish.new.self.done in
    let next : number + c.from.result ≡ number + cond c.args.line.now.begun 1 0 = search rules in
    ends_text first all c.args.line.now number (number + c.from.result) _ short [] refl (λ bytes stands alone.
    text_found number (number + c.from.result) bytes short c.args.line.now.begun alone (c.finish.ensures.words bytes stands)
    (sym c.has_words.ensures ∙ c.if-has_words.true) stands.begun next) on

pub returns-else-has_words-clause-line : goal.returns-else-has_words-clause-line
returns-else-has_words-clause-line c = grind (arith, common_steps, ends_text, text_blank)

use Rattle.file_pieces.proofs.Common.{arith, ◌+◌, ℕ, List, refl, ◌∙◌, sym, words_here}
use Rattle.file_pieces.proofs.FileLineLemmas.{line_found, line_blank, finds, ends_blank}
use Rattle.file_pieces.proofs.file_lines.end_line.Goals as goal

pub returns-then-has_words-clause-line : goal.returns-then-has_words-clause-line
returns-then-has_words-clause-line c = λ first all left on.
    let number : ℕ = c.args.number.now in
    let short : List (List ℕ) = words_here c.finish.new.self.done in
    finds first all c.args.line.now number (number + 1) number short left (λ bytes rest stands alone.
    line_found number (number + 1) bytes rest short alone (c.finish.ensures.words bytes stands)
    (sym c.has_words.ensures ∙ c.if-has_words.true)
    refl) on

pub returns-clause-line : goal.returns-clause-line
returns-clause-line c = grind (arith, ends_blank, line_blank)

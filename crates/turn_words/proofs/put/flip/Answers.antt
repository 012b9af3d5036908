use Rattle.turn_words.proofs.Common.{arith, ◌≡◌, ◌∙◌, ap, sym, subst, ◌++◌, reverse, replicate, length-reverse, minus, EndsOtherwise}
use Rattle.turn_words.proofs.Rewrites.{behind-below, flip-written, flip-noted}
use Rattle.turn_words.proofs.put.flip.Goals as goal

pub change_last-requires-clause-below : goal.change_last-requires-clause-below
change_last-requires-clause-below g c = grind (arith, behind-below)

pub returns-clause-word : goal.returns-clause-word
returns-clause-word g c =
    let d = c.args.degree in
    let k = c.take_run-twos.result in
    let rest = reverse c.take_run-twos.new.self.word in
    let run : c.negative_modulo.result ≡ minus d 2 = c.negative_modulo.ensures.negative in
    flip-written d c.requires.degree k (reverse c.args.word.now.word) rest (reverse c.change_last.new.self.word)
    (reverse c.push_run.new.self.word) (reverse c.push_run-2.new.self.word)
    (c.take_run-twos.ensures.word ∙ ap (λ n. replicate k n ++ rest) run)
    (subst (λ n. EndsOtherwise n rest) run c.take_run-twos.ensures.whole)
    c.change_last.ensures.word c.push_run.ensures.word c.push_run-2.ensures.word

pub returns-clause-rewrite : goal.returns-clause-rewrite
returns-clause-rewrite g c =
    let d = c.args.degree in
    let k = c.take_run-twos.result in
    let rest = reverse c.take_run-twos.new.self.word in
    let run : c.negative_modulo.result ≡ minus d 2 = c.negative_modulo.ensures.negative in
    flip-noted d c.requires.degree k _ (reverse c.args.word.now.word) rest
    (c.take_run-twos.ensures.word ∙ ap (λ n. replicate k n ++ rest) run)
    (subst (λ n. EndsOtherwise n rest) run c.take_run-twos.ensures.whole) (sym (length-reverse c.args.word.now.word))

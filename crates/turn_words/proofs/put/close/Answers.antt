use Rattle.turn_words.proofs.Common.{arith, ◌≡◌, ◌∙◌, length, ap, sym, ◌++◌, reverse, replicate, length-reverse, minus-one, IsCons, close_steps, rewrite_steps, StoodIn, last_changed}
use Rattle.turn_words.specs.declared.put.Rewrite.TheVariants.{Close}
use Rattle.turn_words.proofs.Rewrites.{before-below, open-ends, changed-some, close-written, close-noted}
use Rattle.turn_words.proofs.put.close.Goals as goal
use Rattle.turn_words.proofs.put.close.Goals.{After-pop}

-- an entry stands before the bracket
some : (g : _) (c : After-pop g) → IsCons (reverse c.pop.new.self.word)
some g c =
    (open-ends c.args.degree c.requires.degree c.take_run-twos.result c.pop.result (reverse c.args.word.now.word)
    (reverse c.take_run-twos.new.self.word) (reverse c.pop.new.self.word)
    c.take_run-twos.ensures.word c.take_run-twos.ensures.whole c.requires.open c.pop.ensures.word).1

noted : (g : _) (c : After-pop g) → StoodIn (length c.args.word.now.word) (Close c.take_run-twos.result)
    × (rewrite_steps (length c.args.word.now.word) (Close c.take_run-twos.result) ≡ close_steps (reverse c.args.word.now.word))
noted g c =
    close-noted c.args.degree c.requires.degree c.take_run-twos.result c.pop.result _ (reverse c.args.word.now.word)
    (reverse c.take_run-twos.new.self.word) (reverse c.pop.new.self.word)
    c.take_run-twos.ensures.word c.take_run-twos.ensures.whole c.requires.open c.pop.ensures.word
    (sym (length-reverse c.args.word.now.word))

pub change_last-requires-clause-below : goal.change_last-requires-clause-below
change_last-requires-clause-below g c =
    before-below c.args.degree c.take_run-twos.result 2 c.pop.result c.args.word.now.word _ (reverse c.pop.new.self.word)
    c.requires.in_range c.take_run-twos.ensures.word c.pop.ensures.word (some g (goal.at.change_last-requires-clause-below g c).After-pop)

pub change_last-requires-clause-by : goal.change_last-requires-clause-by
change_last-requires-clause-by g c = grind (arith, minus-one)

pub push_run-requires-clause-some : goal.push_run-requires-clause-some
push_run-requires-clause-some g c =
    changed-some c.args.degree c.negative_modulo.result (reverse c.pop.new.self.word) c.change_last.new.self.word
    c.change_last.ensures.word (some g (goal.at.push_run-requires-clause-some g c).After-pop)

pub returns-clause-word : goal.returns-clause-word
returns-clause-word g c =
    let d = c.args.degree in
    let k = c.take_run-twos.result in
    let left = reverse c.pop.new.self.word in
    close-written d c.requires.degree k c.pop.result (reverse c.args.word.now.word) (reverse c.take_run-twos.new.self.word) left
    (reverse c.change_last.new.self.word) (reverse c.push_run.new.self.word)
    c.take_run-twos.ensures.word c.take_run-twos.ensures.whole c.requires.open c.pop.ensures.word
    (c.change_last.ensures.word ∙ ap (λ n. last_changed d n left) c.negative_modulo.ensures.negative)
    (c.push_run.ensures.word ∙ ap (λ n. replicate k n ++ reverse c.change_last.new.self.word) c.negative_modulo-2.ensures.negative)

pub returns-clause-stood : goal.returns-clause-stood
returns-clause-stood g c = (noted g (goal.at.returns-clause-stood g c).After-pop).0

pub returns-clause-rewrite : goal.returns-clause-rewrite
returns-clause-rewrite g c = (noted g (goal.at.returns-clause-rewrite g c).After-pop).1

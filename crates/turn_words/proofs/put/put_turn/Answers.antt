use Rattle.turn_words.proofs.Common.{sym, reverse, length-reverse}
use Rattle.turn_words.proofs.Rewrites.{spur-noted}
use Rattle.turn_words.proofs.put.put_turn.Goals as goal

pub returns-then-turn-eq0-clause-rewrite : goal.returns-then-turn-eq0-clause-rewrite
returns-then-turn-eq0-clause-rewrite g c =
    spur-noted c.args.degree c.args.turn c.pop.result _ (reverse c.args.word.now.word) (reverse c.pop.new.self.word) c.if-turn-eq0.true
    c.pop.ensures.word (sym (length-reverse c.args.word.now.word))

use Rattle.turn_words.proofs.Common.{arith}
use Rattle.turn_words.proofs.RunLists.{popped-filled}
use Rattle.turn_words.proofs.run_stack.RunStack.pop.Goals as goal

pub invariant_of-self : goal.invariant_of-self
invariant_of-self g c = grind (arith, popped-filled)

pub returns-clause-filled : goal.returns-clause-filled
returns-clause-filled g c = (popped-filled c.pop.result c.self.inside.pairs.items c.pop.new.self.items c.pop.ensures.items
    c.self.invariant).1

use Rattle.turn_words.proofs.Common.{arith}
use Rattle.turn_words.proofs.RunLists.{filled-push}
use Rattle.turn_words.proofs.run_stack.RunStack.push_reserved.Goals as goal

pub invariant_of-self : goal.invariant_of-self
invariant_of-self g c = grind (arith, filled-push)

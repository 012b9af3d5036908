use Rattle.turn_words.proofs.Common.{arith}
use Rattle.turn_words.proofs.RunLists.{filled-push}
use Rattle.turn_words.proofs.run_stack.RunStack.push.Goals as goal

pub invariant_of-self-2 : goal.invariant_of-self-2
invariant_of-self-2 g c = grind (arith, filled-push)

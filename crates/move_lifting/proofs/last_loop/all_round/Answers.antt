use Rattle.move_lifting.proofs.Common.{arith, common_steps}
use Rattle.move_lifting.proofs.ExpandLemmas.{one_pending}
use Rattle.move_lifting.proofs.LastLoopLemmas.{all_round}
use Rattle.move_lifting.proofs.last_loop.all_round.Goals as goal

pub returns : goal.returns
returns c = grind (arith, common_steps, one_pending, all_round)

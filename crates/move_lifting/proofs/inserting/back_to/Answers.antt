use Rattle.move_lifting.proofs.Common.{arith, common_steps}
use Rattle.move_lifting.proofs.BackLemmas.{back_from}
use Rattle.move_lifting.proofs.inserting.back_to.Goals as goal

pub returns : goal.returns
returns c = grind (arith, common_steps, back_from)

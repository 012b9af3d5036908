use Rattle.move_lifting.proofs.Common.{arith}
use Rattle.move_lifting.proofs.ExpandLemmas.{one_pending}
use Rattle.move_lifting.proofs.laying.walk_of_one.Goals as goal

pub returns : goal.returns
returns c = grind (arith, one_pending)

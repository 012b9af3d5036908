use Rattle.move_lifting.proofs.Common.{arith}
use Rattle.move_lifting.proofs.StoredWalkLemmas.{stored-push}
use Rattle.move_lifting.proofs.spoke_walks.SpokeWalks.push.Goals as goal

pub returns : goal.returns
returns c = grind (arith, stored-push)

use Rattle.spoke_rings.proofs.Common.{arith}
use Rattle.spoke_rings.proofs.Places.{one-back}
use Rattle.spoke_rings.proofs.ring.one_on.Goals as goal

pub returns-else-up-clause-on : goal.returns-else-up-clause-on
returns-else-up-clause-on c = grind (arith, one-back)

use Rattle.spoke_rings.proofs.Common.{arith}
use Rattle.spoke_rings.proofs.Reducing.{fall-is, not-fall, fine-other}
use Rattle.spoke_rings.proofs.ring.Ring.look.Goals as goal

pub returns-then-turn-degree : goal.returns-then-turn-degree
returns-then-turn-degree c = grind (arith, fall-is)

pub returns-else-turn-eq1 : goal.returns-else-turn-eq1
returns-else-turn-eq1 c = grind (arith, fine-other, not-fall)

use Rattle.spoke_rings.proofs.Common.{arith, minus-two}
use Rattle.spoke_rings.proofs.ring.Ring.all_fall.Goals as goal

pub returns-then-turn-fall : goal.returns-then-turn-fall
returns-then-turn-fall c = grind (arith, minus-two)

pub loop-at-preserved : goal.loop-at-preserved
loop-at-preserved c k below = grind (arith, minus-two)

use Rattle.spoke_rings.proofs.TurningOver.{Turning}
use Rattle.spoke_rings.proofs.ring.Ring.turn_over.Given as goal

abbrev pub invariant-loop-left : goal.invariant-loop-left
invariant-loop-left l = Turning l.wheel l.fn.self l.self l.left

abbrev pub decreases-loop-left : goal.decreases-loop-left
decreases-loop-left l = l.left

use Rattle.spoke_rings.proofs.Reducing.{Closing}
use Rattle.spoke_rings.proofs.ring.Ring.close.Given as goal

abbrev pub invariant-loop-pushes : goal.invariant-loop-pushes
invariant-loop-pushes l = Closing l.wheel l.fn.self l.self l.pushes

abbrev pub decreases-loop-pushes : goal.decreases-loop-pushes
decreases-loop-pushes l = l.pushes

use Rattle.spoke_rings.proofs.Common.{length}
use Rattle.spoke_rings.proofs.Reducing.{Reducing, left_of}
use Rattle.spoke_rings.proofs.ring.Ring.reduce.Given as goal

abbrev pub invariant-loop-passed : goal.invariant-loop-passed
invariant-loop-passed l = Reducing l.wheel l.fn.self l.self l.passed

-- the spokes, then the sum of the turns, then the seams that are left
abbrev pub decreases-loop-passed : goal.decreases-loop-passed
decreases-loop-passed l = left_of l.wheel (length l.fn.self.spokes) l.self l.passed

use Rattle.off_reader.proofs.Common.{◌-◌, numbers}
use Rattle.off_reader.proofs.RingLemmas.{DifferTo}
use Rattle.off_reader.proofs.ring.has_equal_neighbours.Given as goal

abbrev pub invariant-loop-corner : goal.invariant-loop-corner
invariant-loop-corner l = DifferTo (numbers l.ring) (l.corner - 1)

use Rattle.connectivity.proofs.Common.{◌+◌, first_side}
use Rattle.connectivity.proofs.RingLemmas.{JoinsSidesUpTo}
use Rattle.connectivity.proofs.corners.rings.Given as goal

abbrev pub invariant-loop-face : goal.invariant-loop-face
invariant-loop-face l = JoinsSidesUpTo l.faces l.corners (first_side l.faces l.face)

abbrev pub invariant-loop-at : goal.invariant-loop-at
invariant-loop-at l = JoinsSidesUpTo l.faces l.corners (first_side l.faces l.face.0 + l.at)

use Rattle.doubling.proofs.Common.{with_quads, ◌≡◌, ◌+◌, first_side}
use Rattle.doubling.proofs.building.put_quads_of.Given as goal

abbrev pub invariant-loop-at : goal.invariant-loop-at
invariant-loop-at l = l.double ≡ with_quads l.faces (first_side l.faces l.face.0 + l.at)

use Rattle.doubling.proofs.Common.{with_quads, ◌≡◌, first_side}
use Rattle.doubling.proofs.building.put_quads.Given as goal

abbrev pub invariant-loop-face : goal.invariant-loop-face
invariant-loop-face l = l.double ≡ with_quads l.faces (first_side l.faces l.face)

use Rattle.doubling.proofs.Common.{with_faces, ◌≡◌}
use Rattle.doubling.proofs.building.put_faces.Given as goal

abbrev pub invariant-loop-face : goal.invariant-loop-face
invariant-loop-face l = l.double ≡ with_faces l.faces l.face

use Rattle.doubling.proofs.Common.{with_mirrors, ◌≡◌}
use Rattle.doubling.proofs.building.put_mirrors.Given as goal

abbrev pub invariant-loop-face : goal.invariant-loop-face
invariant-loop-face l = l.double ≡ with_mirrors l.faces l.face

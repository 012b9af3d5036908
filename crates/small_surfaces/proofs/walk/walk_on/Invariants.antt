use Rattle.std.specs.Prelude.{◌≡◌, take}
use Rattle.small_surfaces.proofs.walk.walk_on.Given as goal

abbrev pub invariant-loop-place : goal.invariant-loop-place
invariant-loop-place l = l.walk ≡ take l.place l.vertices

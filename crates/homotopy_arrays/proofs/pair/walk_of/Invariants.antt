use Rattle.homotopy_arrays.proofs.Common.{◌≡◌, take}
use Rattle.homotopy_arrays.proofs.pair.walk_of.Given as goal

-- the vertices so far
abbrev pub invariant-loop-place : goal.invariant-loop-place
invariant-loop-place l = l.walk ≡ take l.place l.vertices

use Rattle.homotopy_arrays.proofs.Common.{◌≡◌, ◌+◌, sum, take}
use Rattle.homotopy_arrays.proofs.mesh.add_up_to.Given as goal

-- the sizes so far, and what is left
abbrev pub invariant-loop-size : goal.invariant-loop-size
invariant-loop-size l = sum (take l.size-index l.sizes) + l.left ≡ l.wanted

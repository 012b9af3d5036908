use Rattle.homotopy_arrays.proofs.Common.{DifferTo}
use Rattle.homotopy_arrays.proofs.mesh.has_equal_neighbours.Given as goal

-- no corner so far is the next one
abbrev pub invariant-loop-corner : goal.invariant-loop-corner
invariant-loop-corner l = DifferTo l.face l.corner

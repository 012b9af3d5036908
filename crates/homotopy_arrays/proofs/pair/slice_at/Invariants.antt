use Rattle.homotopy_arrays.proofs.Common.{◌≡◌, sum, take}
use Rattle.homotopy_arrays.proofs.pair.slice_at.Given as goal

abbrev pub invariant-loop-before : goal.invariant-loop-before
invariant-loop-before l = l.at ≡ sum (take l.before l.sizes)

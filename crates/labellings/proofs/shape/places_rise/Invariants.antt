use Rattle.labellings.proofs.Common.{◌≡◌, ℕ, ◌<◌, slice_index, add}
use Rattle.labellings.proofs.shape.places_rise.Given as goal

abbrev pub invariant-loop-spoke : goal.invariant-loop-spoke
invariant-loop-spoke l = (i : ℕ) → i < l.spoke → slice_index l.places (add 4 i 1) ≡ add 4 (slice_index l.places i) 1

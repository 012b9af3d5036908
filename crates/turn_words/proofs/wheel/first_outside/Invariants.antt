use Rattle.turn_words.proofs.Common.{◌<◌, length, slice_index, ℕ}
use Rattle.turn_words.proofs.wheel.first_outside.Given as goal

abbrev pub invariant-loop-spoke : goal.invariant-loop-spoke
invariant-loop-spoke l = (k : ℕ) → k < l.spoke → slice_index l.places k < length l.places

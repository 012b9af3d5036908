use Rattle.turn_words.proofs.Common.{◌<◌, ℕ, slice_index}
use Rattle.turn_words.proofs.canonising.first_above.Given as goal

abbrev pub invariant-loop-at : goal.invariant-loop-at
invariant-loop-at l = (k : ℕ) → k < l.at → slice_index l.word k < l.degree

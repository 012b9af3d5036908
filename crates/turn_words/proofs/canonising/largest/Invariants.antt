use Rattle.turn_words.proofs.Common.{◌≡◌, ◌⊎◌, ◌<◌, ◌≤◌, ℕ, slice_index, Contains}
use Rattle.turn_words.proofs.canonising.largest.Given as goal

-- of the entries so far
abbrev pub invariant-loop-entry : goal.invariant-loop-entry
invariant-loop-entry l =
    ((k : ℕ) → k < l.entry-index → slice_index l.word k ≤ l.largest)
    × (l.largest ≡ 0 ⊎ Contains l.word l.largest)

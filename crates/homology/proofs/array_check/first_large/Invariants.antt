use Rattle.homology.proofs.Common.{number_at, MOST_NUMBER, ℕ, ◌<◌, ◌≤◌, unsigned_abs}
use Rattle.homology.proofs.array_check.first_large.Given as goal

-- the numbers so far are small
abbrev pub invariant-loop-place : goal.invariant-loop-place
invariant-loop-place l = (k : ℕ) → k < l.place → unsigned_abs (number_at l.numbers k) ≤ MOST_NUMBER

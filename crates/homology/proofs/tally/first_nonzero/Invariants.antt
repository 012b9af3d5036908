use Rattle.homology.proofs.Common.{number_at, ◌≡◌, ℕ, ◌<◌, pos}
use Rattle.homology.proofs.tally.first_nonzero.Given as goal

-- the entries so far are 0
abbrev pub invariant-loop-edge : goal.invariant-loop-edge
invariant-loop-edge l = (k : ℕ) → k < l.edge → number_at l.tally k ≡ pos 0

use Rattle.connectivity.proofs.Common.{◌≡◌, ◌<◌, ℕ, true, is_used}
use Rattle.connectivity.proofs.vertices.least_used.Given as goal

abbrev pub invariant-loop-vertex : goal.invariant-loop-vertex
invariant-loop-vertex l = (v : ℕ) → v < l.vertex → is_used l.faces v ≡ true → ⊥

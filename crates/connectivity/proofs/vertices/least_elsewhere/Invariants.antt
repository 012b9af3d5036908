use Rattle.connectivity.proofs.Common.{◌≡◌, ◌<◌, ℕ, true, get_or, is_used}
use Rattle.connectivity.proofs.vertices.least_elsewhere.Given as goal

abbrev pub invariant-loop-other : goal.invariant-loop-other
invariant-loop-other l = (v : ℕ) → v < l.other → is_used l.faces v ≡ true → get_or l.least v 0 ≡ get_or l.least l.vertex.0 0

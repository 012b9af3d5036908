use Rattle.connectivity.proofs.Common.{link_at, Pinched, ◌≡◌, ◌<◌, ℕ}
use Rattle.connectivity.proofs.corners.first_pinched.Given as goal

abbrev pub invariant-loop-vertex : goal.invariant-loop-vertex
invariant-loop-vertex l = (v : ℕ) → v < l.vertex → link_at l.links v ≡ Pinched → ⊥

use Rattle.manifold_check.proofs.Common.{◌≡◌, ◌<◌, ℕ, length, edge_in}
use Rattle.manifold_check.proofs.check.first_uneven.Given as goal

abbrev pub invariant-loop-edge : goal.invariant-loop-edge
invariant-loop-edge l = (k : ℕ) → k < l.edge → length (edge_in l.sides k).sides ≡ 2

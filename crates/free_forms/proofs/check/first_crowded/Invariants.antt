use Rattle.free_forms.proofs.Common.{◌<◌, ◌≤◌, ℕ, length, edge_in}
use Rattle.free_forms.proofs.check.first_crowded.Given as goal

abbrev pub invariant-loop-edge : goal.invariant-loop-edge
invariant-loop-edge l = (k : ℕ) → k < l.edge → length (edge_in l.sides k).sides ≤ 2

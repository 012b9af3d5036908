use Rattle.surf_model.proofs.Common.{◌≡◌, ◌≤◌, ℕ, false, take, length, slice_index_or, list_any, is_end}
use Rattle.surf_model.proofs.linking.marks.Given as goal

abbrev pub invariant-loop-edge : goal.invariant-loop-edge
invariant-loop-edge l = record {
  within : l.edge ≤ length l.edges;
  many : length l.marks.items ≡ l.count;
  marked : (v : ℕ) → slice_index_or l.marks.items v false ≡ list_any (is_end v) (take l.edge l.edges);
}

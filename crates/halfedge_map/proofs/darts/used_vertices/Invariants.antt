use Rattle.halfedge_map.proofs.Common.{◌≡◌, ◌≤◌, is_used, count_below}
use Rattle.halfedge_map.proofs.darts.used_vertices.Given as goal

abbrev pub invariant-loop-v : goal.invariant-loop-v
invariant-loop-v l = record { counted : l.used ≡ count_below (is_used l.faces) l.v; few : l.used ≤ l.v }

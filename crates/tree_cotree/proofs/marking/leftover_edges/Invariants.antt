use Rattle.tree_cotree.proofs.Common.{◌≡◌, ◌≤◌, count_below, has_kind, Left}
use Rattle.tree_cotree.proofs.marking.leftover_edges.Given as goal

abbrev pub invariant-loop-edge : goal.invariant-loop-edge
invariant-loop-edge l = record { counted : l.left ≡ count_below (has_kind l.kinds Left) l.edge; few : l.left ≤ l.edge }

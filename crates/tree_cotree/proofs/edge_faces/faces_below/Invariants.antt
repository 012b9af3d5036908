use Rattle.tree_cotree.proofs.Common.{rotations_of, ◌≡◌, length, AreBelowEdges, kept_at}
use Rattle.tree_cotree.proofs.edge_faces.faces_below.Given as goal

abbrev pub invariant-loop-face : goal.invariant-loop-face
invariant-loop-face l = record {
  long : length l.below.items ≡ length l.surface.table;
  kept : AreBelowEdges (rotations_of l.surface) l.from (length l.surface.table) (kept_at l.below.items) l.face;
}

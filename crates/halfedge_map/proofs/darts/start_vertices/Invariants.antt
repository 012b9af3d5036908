use Rattle.halfedge_map.proofs.Common.{ListOrigins, signed, first_side}
use Rattle.halfedge_map.proofs.darts.start_vertices.Given as goal

abbrev pub invariant-loop-face : goal.invariant-loop-face
invariant-loop-face l = ListOrigins (signed l.faces l.signs) (first_side l.faces l.face) l.origin.items

use Rattle.halfedge_map.proofs.Common.{ListNexts, signed, first_side}
use Rattle.halfedge_map.proofs.darts.next_darts.Given as goal

abbrev pub invariant-loop-face : goal.invariant-loop-face
invariant-loop-face l = ListNexts (signed l.faces l.signs) (first_side l.faces l.face) l.next.items

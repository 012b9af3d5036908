use Rattle.halfedge_map.proofs.Common.{ListNexts, signed, ◌+◌, first_side}
use Rattle.halfedge_map.proofs.darts.push_nexts.Given as goal

abbrev pub invariant-loop-at : goal.invariant-loop-at
invariant-loop-at l = ListNexts (signed l.faces l.signs) (first_side l.faces l.fn.face.0 + l.at) l.next.items

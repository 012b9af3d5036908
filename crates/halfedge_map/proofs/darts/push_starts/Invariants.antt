use Rattle.halfedge_map.proofs.Common.{ListOrigins, signed, ◌+◌, first_side}
use Rattle.halfedge_map.proofs.darts.push_starts.Given as goal

abbrev pub invariant-loop-at : goal.invariant-loop-at
invariant-loop-at l = ListOrigins (signed l.faces l.signs) (first_side l.faces l.face.0 + l.at) l.origin.items

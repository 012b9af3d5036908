use Rattle.tree_cotree.proofs.Common.{arith}
use Rattle.tree_cotree.proofs.EndLemmas.{vertices_at, second_side, faces_at}
use Rattle.tree_cotree.proofs.colouring.ends.Goals as goal

pub side-requires-in-Faces-clause-side : goal.side-requires-in-Faces-clause-side
side-requires-in-Faces-clause-side c = rw c.sides-sides.ensures.table (second_side c.requires.valid c.args.edge.0 c.requires.edge)

pub returns-in-Vertices : goal.returns-in-Vertices
returns-in-Vertices c = grind (arith, vertices_at)

pub returns-in-Faces : goal.returns-in-Faces
returns-in-Faces c = grind (arith, faces_at)

use Rattle.tree_cotree.proofs.RingCountLemmas.{empty_is_vertices, full_is_faces}
use Rattle.tree_cotree.proofs.ring_laws.rings_number_vertices_and_faces.Goals as goal

pub returns : goal.returns
returns c = record { empty = empty_is_vertices; full = full_is_faces }

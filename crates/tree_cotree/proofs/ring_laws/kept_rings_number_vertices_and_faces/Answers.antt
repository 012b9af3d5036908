use Rattle.tree_cotree.proofs.RingCountLemmas.{kept_empty, kept_full}
use Rattle.tree_cotree.proofs.ring_laws.kept_rings_number_vertices_and_faces.Goals as goal

pub returns : goal.returns
returns c = record { empty = kept_empty; full = kept_full }

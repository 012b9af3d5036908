use Rattle.tree_cotree.proofs.Common.{rotation_system}
use Rattle.tree_cotree.proofs.ring_laws.rings_go_round_vertices_and_faces.Goals as goal

pub returns : goal.returns
returns c = record {
  empty = λ surface d e o l k. let is = (rotation_system surface o).vertices d e l k in (is.1, is.0);
  full = λ surface d e o l k. let is = (rotation_system surface o).faces d e l k in (is.1, is.0);
}

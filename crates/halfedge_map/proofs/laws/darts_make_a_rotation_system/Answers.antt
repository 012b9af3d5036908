use Rattle.halfedge_map.proofs.SystemLemmas.{rotation_system}
use Rattle.halfedge_map.proofs.laws.darts_make_a_rotation_system.Goals as goal

pub returns : goal.returns
returns c = rotation_system

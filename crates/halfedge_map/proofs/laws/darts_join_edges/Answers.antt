use Rattle.halfedge_map.proofs.Common.{arith}
use Rattle.halfedge_map.proofs.TwinLemmas.{origin-twin}
use Rattle.halfedge_map.proofs.EdgeLemmas.{dart_between, edge_of_dart, edge_has_ends}
use Rattle.halfedge_map.proofs.laws.darts_join_edges.Goals as goal

pub returns : goal.returns
returns c = grind (arith, dart_between, edge_of_dart, origin-twin, edge_has_ends)

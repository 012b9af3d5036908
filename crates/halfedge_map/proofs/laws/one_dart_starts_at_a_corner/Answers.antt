use Rattle.halfedge_map.proofs.DartLemmas.{dart_starts}
use Rattle.halfedge_map.proofs.VertexLemmas.{at_start, at_end}
use Rattle.halfedge_map.proofs.laws.one_dart_starts_at_a_corner.Goals as goal

pub returns : goal.returns
returns c = record { starts = dart_starts; own = at_start; next = at_end }

use Rattle.halfedge_map.proofs.Common.{arith}
use Rattle.halfedge_map.proofs.DartLemmas.{dart_of_side}
use Rattle.halfedge_map.proofs.surface.Surface.face_of.Goals as goal

pub returns-clause-face : goal.returns-clause-face
returns-clause-face c = grind (arith, dart_of_side)

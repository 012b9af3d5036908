use Rattle.halfedge_map.proofs.NumberLemmas.{HasSide, side_with_number}
use Rattle.halfedge_map.proofs.DartLemmas.{dart_of_side}
use Rattle.halfedge_map.proofs.laws.darts_are_sides.Goals as goal

pub returns : goal.returns
returns c =
    record {
      dart = dart_of_side;
      side = λ s d l. let found : HasSide s.mesh d = side_with_number s.mesh d l in (found.side, found.in_mesh, found.number);
    }

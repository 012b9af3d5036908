use Rattle.off_reader.proofs.MeshLemmas.{IsPointsTo}
use Rattle.off_reader.proofs.mesh.pass_points.Given as goal

abbrev pub invariant-loop : goal.invariant-loop
invariant-loop l = IsPointsTo l.coordinates l.vertices l.initial.cursor l.counter l.cursor

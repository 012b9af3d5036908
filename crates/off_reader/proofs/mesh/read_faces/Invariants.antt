use Rattle.off_reader.proofs.Common.{◌≡◌, []}
use Rattle.off_reader.proofs.MeshLemmas.{IsFacesTo}
use Rattle.off_reader.proofs.mesh.read_faces.Given as goal

abbrev pub invariant-loop : goal.invariant-loop
invariant-loop l = IsFacesTo l.header.vertices l.header.faces l.initial.cursor l.counter l.cursor l.faces.mesh × (l.faces.pending ≡ [])

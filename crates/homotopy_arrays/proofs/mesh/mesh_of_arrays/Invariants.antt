use Rattle.homotopy_arrays.proofs.MeshLemmas.{AreFacesTo}
use Rattle.homotopy_arrays.proofs.mesh.mesh_of_arrays.Given as goal

abbrev pub invariant-loop-face : goal.invariant-loop-face
invariant-loop-face l = AreFacesTo l.vertices l.sizes l.corners l.face l.at l.faces

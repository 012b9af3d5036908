use Rattle.homotopy_arrays.proofs.ArraysOfMeshes.{read_arrays, arrays_read}
use Rattle.homotopy_arrays.proofs.laws.arrays_are_those_of_their_mesh.Goals as goal

pub returns : goal.returns
returns c mesh vertices sizes corners = (read_arrays mesh vertices sizes corners, arrays_read mesh vertices sizes corners)

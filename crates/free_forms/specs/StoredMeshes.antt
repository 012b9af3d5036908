-- What holds of the parts of an open mesh.
use Rattle.std.specs.Prelude.{ℕ, List}
use Rattle.surf_model.specs.FaceLists.{FaceList}
use Rattle.surf_model.specs.Edges.{Edge, IsTableOf}
use Rattle.free_forms.specs.Parents.{HasFaceParents}

-- the table is that of the mesh, and the places are those of parents
pub record IsStoredMesh (mesh : FaceList) (table : List Edge) (places : List ℕ) : Type 0 where
  pub table_of : IsTableOf mesh table
  pub parents : HasFaceParents (record { mesh = mesh; places = places })

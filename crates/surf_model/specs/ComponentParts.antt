-- A mesh cut into its components: the faces of each, and for each vertex the place of its component.
use Rattle.std.specs.Prelude.{◌≡◌, ℕ, ◌<◌, List, length, slice_index_or, []}
use Rattle.surf_model.specs.FaceLists.{FaceList}
use Rattle.surf_model.specs.Parts.{parts}
use Rattle.surf_model.specs.Components.{ArePlacesOfComponents, faces_of_component}
use Rattle.surf_model.specs.Submeshes.{submesh}

-- the components, each as the list of its faces, and for each vertex the place of its component
pub record PartsView : Type 0 where
  pub components : List (List ℕ)
  pub places : List ℕ

-- the faces of component k; none where there is no such component
abbrev pub component_at : PartsView → ℕ → List ℕ
component_at parts k = slice_index_or parts.components k []

-- the components of the mesh, in order, each with its faces in rising order
pub record AreParts (mesh : FaceList) (parts : PartsView) : Type 0 where
  pub places : ArePlacesOfComponents mesh (length parts.components) parts.places
  pub faces : (k : ℕ) → k < length parts.components → component_at parts k ≡ faces_of_component mesh parts.places k

-- the mesh of component k
abbrev pub component_mesh : FaceList → PartsView → ℕ → FaceList
component_mesh mesh parts k = submesh mesh (component_at parts k)

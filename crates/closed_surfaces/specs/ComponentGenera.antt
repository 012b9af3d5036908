-- The genera of the components of a mesh.
use Rattle.surf_model.specs.Genera.{HasGenus}
use Rattle.std.specs.Prelude.{◌≡◌, ℕ, ◌<◌, List, length, slice_index}
use Rattle.surf_model.specs.FaceLists.{FaceList}
use Rattle.surf_model.specs.ComponentParts.{PartsView, AreParts, component_mesh}

-- the genus of each component, in the order of the components
pub record AreGeneraOf (mesh : FaceList) (genera : List ℕ) : Type 0 where
  pub parts : PartsView
  pub are_parts : AreParts mesh parts
  pub each : length genera ≡ length parts.components
  pub genus : (k : ℕ) → k < length genera → HasGenus (component_mesh mesh parts k) (slice_index genera k)

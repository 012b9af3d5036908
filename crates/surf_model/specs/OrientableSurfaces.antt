-- Orientable closed surfaces, in one piece or in several.
use Rattle.std.specs.Prelude.{ℕ, List}
use Rattle.surf_model.specs.FaceLists.{FaceList}
use Rattle.surf_model.specs.Surfaces.{IsClosedManifold, IsOrientable}
use Rattle.surf_model.specs.Components.{ArePlacesOfComponents}

-- A mesh is an orientable closed surface where there is a face, each edge has exactly two sides, the corners at each used vertex make one
-- ring, and the faces can be signed so that the two sides of every edge run oppositely. It may have any number of components.
pub record IsOrientableSurface (mesh : FaceList) : Type 0 where
  pub manifold : IsClosedManifold mesh
  pub orientable : IsOrientable mesh

-- the mesh has so many components
abbrev pub HasComponents : FaceList → ℕ → Type 0
HasComponents mesh count = (places : List ℕ) × ArePlacesOfComponents mesh count places

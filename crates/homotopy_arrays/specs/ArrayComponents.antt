-- The components of a surface, as they are told in arrays.
use Rattle.std.specs.Prelude.{◌≡◌, ℕ, ◌<◌, false, List, length, slice_index, slice_index_or, IsTrue}
use Rattle.surf_model.specs.ComponentParts.{PartsView, component_mesh}
use Rattle.surf_model.specs.Components.{ArePlacesOfComponents, faces_of_component}
use Rattle.surf_model.specs.FaceLists.{FaceList, is_used}
use Rattle.surf_model.specs.Genera.{AreNumbersOf, HasGenus}
use Rattle.surf_model.specs.OrientableSurfaces.{IsOrientableSurface}
use Rattle.surf_model.specs.Submeshes.{submesh}
use Rattle.surf_model.specs.declared.numbers.SurfaceNumbers.{SurfaceNumbers}
use Rattle.homotopy_arrays.specs.declared.components.ComponentNumbers.{ComponentNumbers}
use Rattle.homotopy_arrays.specs.declared.components.SurfaceComponents.{SurfaceComponents}

-- how many vertices, edges and faces a mesh has, and its genus
pub record AreComponentNumbers (mesh : FaceList) (numbers : ComponentNumbers) : Type 0 where
  pub counted : SurfaceNumbers
  pub are_its_own : AreNumbersOf mesh counted
  pub vertices : numbers.vertices ≡ counted.vertices
  pub edges : numbers.edges ≡ counted.edges
  pub faces : numbers.faces ≡ counted.faces
  pub genus : HasGenus mesh numbers.genus

-- the faces of component k, as a mesh, where each vertex has its place
abbrev pub placed_mesh : FaceList → List ℕ → ℕ → FaceList
placed_mesh mesh places k = submesh mesh (faces_of_component mesh places k)

-- An orientable closed surface in its components: for each vertex the place of its component, and for one that no face names, which is of
-- none, how many components there are; and the numbers of each component.
pub record AreComponentsOf (mesh : FaceList) (found : SurfaceComponents) : Type 0 where
  pub surface : IsOrientableSurface mesh
  pub places : ArePlacesOfComponents mesh (length found.numbers.items) found.places.items
  pub unused : (v : ℕ) → v < mesh.count → is_used mesh v ≡ false → slice_index found.places.items v ≡ length found.numbers.items
  pub numbers : (k : ℕ) (d : ComponentNumbers) → k < length found.numbers.items
      → AreComponentNumbers (placed_mesh mesh found.places.items k) (slice_index_or found.numbers.items k d)

-- ---- while they are told, where the mesh was cut into its components

-- the numbers of the components, in their order
pub record AreNumbersOfParts (mesh : FaceList) (parts : PartsView) (numbers : List ComponentNumbers) : Type 0 where
  pub each : length numbers ≡ length parts.components
  pub own : (k : ℕ) (d : ComponentNumbers) → k < length numbers
      → AreComponentNumbers (component_mesh mesh parts k) (slice_index_or numbers k d)

-- the place that is told of a vertex
pub record IsToldPlace (mesh : FaceList) (parts : PartsView) (v place : ℕ) : Type 0 where
  pub used : IsTrue (is_used mesh v) → place ≡ slice_index parts.places v
  pub unused : is_used mesh v ≡ false → place ≡ length parts.components

-- that of each vertex
pub record AreToldPlaces (mesh : FaceList) (parts : PartsView) (places : List ℕ) : Type 0 where
  pub each_vertex : length places ≡ mesh.count
  pub own : (v : ℕ) → v < length places → IsToldPlace mesh parts v (slice_index places v)

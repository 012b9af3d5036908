-- The numbers of a mesh, its genus, and components that are spheres.
use Rattle.std.specs.Prelude.{◌≡◌, ℕ, ◌*◌, List, length, slice_index, pos, ◌+ℤ◌, ◌-ℤ◌}
use Rattle.surf_model.specs.FaceLists.{FaceList, is_used}
use Rattle.surf_model.specs.Edges.{Edge, IsTableOf}
use Rattle.surf_model.specs.ComponentParts.{PartsView, AreParts, component_mesh}
use Rattle.surf_model.specs.Numbers.{count_below}
use Rattle.surf_model.specs.declared.numbers.SurfaceNumbers.{SurfaceNumbers}

-- The numbers of a mesh: how many vertices are used, how many edges and faces there are, and the Euler characteristic V - E + F.
pub record AreNumbersOf (mesh : FaceList) (numbers : SurfaceNumbers) : Type 0 where
  pub vertices : numbers.vertices ≡ count_below (is_used mesh) mesh.count
  pub table : List Edge
  pub is_table : IsTableOf mesh table
  pub edges : numbers.edges ≡ length table
  pub faces : numbers.faces ≡ length mesh.faces
  pub euler : numbers.euler ≡ (pos numbers.vertices -ℤ pos numbers.edges) +ℤ pos numbers.faces

-- the mesh has the genus g for which 2 - 2 g is its Euler characteristic
abbrev pub HasGenus : FaceList → ℕ → Type 0
HasGenus mesh genus = (numbers : SurfaceNumbers) × AreNumbersOf mesh numbers × (pos 2 -ℤ pos (2 * genus) ≡ numbers.euler)

-- the component in which a vertex of the mesh lies has genus 0
abbrev pub LiesOnSphere : FaceList → ℕ → Type 0
LiesOnSphere mesh v =
    (parts : PartsView) × AreParts mesh parts × HasGenus (component_mesh mesh parts (slice_index parts.places v)) 0

-- A mesh over the vertices that it uses, and the numbers of vertices in their components.
use Rattle.std.specs.Prelude.{◌≡◌, ℕ, ◌<◌, List, length, map, slice_index, All, IsTrue}
use Rattle.surf_model.specs.FaceLists.{FaceList, IsFaceList, HasFileSize, is_used}
use Rattle.surf_model.specs.Numbers.{count_below}
use Rattle.surf_model.specs.ComponentParts.{PartsView, AreParts, component_mesh}
use Rattle.closed_surfaces.specs.ComponentGenera.{AreGeneraOf}
use Rattle.closed_surfaces.specs.SignedSurfaces.{IsSigned}
use Rattle.component_deciding.specs.declared.apart.Apart.{Apart}
use Rattle.component_deciding.specs.declared.own_numbers.OwnNumbers.{OwnNumbers}

-- the number of a vertex among those that a mesh uses: how many of them come before it
unfoldable pub own_number : FaceList → ℕ → ℕ
own_number mesh v = count_below (is_used mesh) v

-- a walk by these numbers
abbrev pub own_walk : FaceList → List ℕ → List ℕ
own_walk mesh walk = map (own_number mesh) walk

-- the mesh over the vertices that it uses, by these numbers
abbrev pub own_mesh : FaceList → FaceList
own_mesh mesh = record { count = count_below (is_used mesh) mesh.count; faces = map (own_walk mesh) mesh.faces }

-- for each used vertex its number in its component, and for each component how many vertices it has
pub record AreOwnNumbers (mesh : FaceList) (parts : PartsView) (own : OwnNumbers) : Type 0 where
  pub valid : IsFaceList mesh
  pub small : HasFileSize mesh
  pub each_vertex : length own.numbers.items ≡ mesh.count
  pub each_component : length own.counts.items ≡ length parts.components
  pub numbered : (v : ℕ) → IsTrue (is_used mesh v)
      → slice_index own.numbers.items v ≡ own_number (component_mesh mesh parts (slice_index parts.places v)) v
  pub counted : (k : ℕ) → k < length parts.components → slice_index own.counts.items k ≡ (own_mesh (component_mesh mesh parts k)).count

-- an orientable closed surface with its components, the numbers of their vertices, and their genera
pub record IsApart (apart : Apart) : Type 0 where
  pub signed : IsSigned apart.mesh
  pub parts : AreParts apart.mesh.faces apart.parts
  pub own : AreOwnNumbers apart.mesh.faces apart.parts apart.own
  pub genera : AreGeneraOf apart.mesh.faces apart.genera.items

-- the component at a place, as a mesh over its own vertices
abbrev pub IsLabelledComponent : Apart → ℕ × FaceList → Type 0
IsLabelledComponent apart labelled = labelled.1 ≡ own_mesh (component_mesh apart.mesh.faces apart.parts labelled.0)

-- all entries of the walk are vertices of the component at that place, and by their own numbers they are the other walk
pub record IsOwnWalk (apart : Apart) (place : ℕ) (walk own : List ℕ) : Type 0 where
  pub there : All (λ v. IsTrue (is_used apart.mesh.faces v) × (slice_index apart.parts.places v ≡ place)) walk
  pub by_number : own ≡ own_walk (component_mesh apart.mesh.faces apart.parts place) walk

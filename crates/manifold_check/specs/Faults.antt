-- The first condition of a closed manifold that fails, with its least element.
use Rattle.std.specs.Prelude.{◌≡◌, ◌≢◌, ℕ, ◌<◌, length, IsTrue}
use Rattle.surf_model.specs.FaceLists.{FaceList, is_edge}
use Rattle.surf_model.specs.Edges.{IsPairBefore}
use Rattle.surf_model.specs.Surfaces.{sides_between, EachEdgeHasTwoSides}
use Rattle.connectivity.specs.Joined.{IsLeastPinch}
use Rattle.manifold_check.specs.declared.fault.SurfaceFault.{SurfaceFault}
use Rattle.manifold_check.specs.declared.fault.SurfaceFault.TheVariants.{NoFace, EdgeSides, Pinched, OutOfMemory}

-- the least edge, by its lower and then by its higher vertex, that is not the edge of exactly two sides, with their number
pub record IsLeastUnevenEdge (mesh : FaceList) (low high sides : ℕ) : Type 0 where
  pub ordered : low < high
  pub edge : IsTrue (is_edge mesh low high)
  pub number : sides ≡ sides_between mesh low high
  pub uneven : sides ≢ 2
  pub least : (a b : ℕ) → a < b → IsTrue (is_edge mesh a b) → IsPairBefore a b low high → sides_between mesh a b ≡ 2

-- an edge is at fault, where there is a face
pub record IsEdgeFault (mesh : FaceList) (low high sides : ℕ) : Type 0 where
  pub some_face : 0 < length mesh.faces
  pub edge : IsLeastUnevenEdge mesh low high sides

-- a vertex is pinched, where each edge has two sides
pub record IsPinchFault (mesh : FaceList) (v : ℕ) : Type 0 where
  pub some_face : 0 < length mesh.faces
  pub two_sides : EachEdgeHasTwoSides mesh
  pub vertex : IsLeastPinch mesh v

-- the condition of the fault is the first that fails, and its element is the least; want of memory is no fault of the mesh
abbrev pub IsFirstFault : FaceList → SurfaceFault → Type 0
IsFirstFault mesh NoFace = length mesh.faces ≡ 0
IsFirstFault mesh (EdgeSides low high sides) = IsEdgeFault mesh low.0 high.0 sides
IsFirstFault mesh (Pinched vertex) = IsPinchFault mesh vertex.0
IsFirstFault mesh OutOfMemory = ⊥

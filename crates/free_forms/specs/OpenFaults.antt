-- The first condition of an open surface that fails, with its least element.
use Rattle.std.specs.Prelude.{◌≡◌, ℕ, ◌<◌, ◌≤◌, length}
use Rattle.surf_model.specs.FaceLists.{FaceList}
use Rattle.surf_model.specs.Edges.{Edge, IsPairBefore, edge_in}
use Rattle.surf_model.specs.Surfaces.{sides_between}
use Rattle.connectivity.specs.Joined.{NoEdgeHasThreeSides, EachVertexHasOneRing, IsLeastPinch, AreLeastApart}
use Rattle.free_forms.specs.OpenSurfaces.{HasBoundary}
use Rattle.free_forms.specs.declared.fault.OpenFault.{OpenFault}
use Rattle.free_forms.specs.declared.fault.OpenFault.TheVariants.{NoFace, EdgeSides, NoBoundary, Pinched, Apart, OutOfMemory}
use Rattle.std.specs.Prelude.{List}

-- the least edge, by its lower and then by its higher vertex, that is the edge of three or more sides, with their number
pub record IsLeastCrowdedEdge (mesh : FaceList) (low high sides : ℕ) : Type 0 where
  pub ordered : low < high
  pub number : sides ≡ sides_between mesh low high
  pub crowded : 2 < sides
  pub least : (a b : ℕ) → a < b → IsPairBefore a b low high → sides_between mesh a b ≤ 2

-- an edge is at fault, where there is a face
pub record IsOpenEdgeFault (mesh : FaceList) (low high sides : ℕ) : Type 0 where
  pub some_face : 0 < length mesh.faces
  pub edge : IsLeastCrowdedEdge mesh low high sides

-- there is no boundary, where no edge has three sides
pub record IsBoundaryFault (mesh : FaceList) : Type 0 where
  pub some_face : 0 < length mesh.faces
  pub few_sides : NoEdgeHasThreeSides mesh
  pub none : HasBoundary mesh → ⊥

-- a vertex is pinched, where there is a boundary too
pub record IsOpenPinchFault (mesh : FaceList) (v : ℕ) : Type 0 where
  pub some_face : 0 < length mesh.faces
  pub few_sides : NoEdgeHasThreeSides mesh
  pub boundary : HasBoundary mesh
  pub vertex : IsLeastPinch mesh v

-- two vertices are apart, where no vertex is pinched either
pub record IsApartFault (mesh : FaceList) (u v : ℕ) : Type 0 where
  pub some_face : 0 < length mesh.faces
  pub few_sides : NoEdgeHasThreeSides mesh
  pub boundary : HasBoundary mesh
  pub one_fan : EachVertexHasOneRing mesh
  pub vertices : AreLeastApart mesh u v

-- the condition of the fault is the first that fails, and its element is the least; want of memory is no fault of the mesh
abbrev pub IsFirstOpenFault : FaceList → OpenFault → Type 0
IsFirstOpenFault mesh NoFace = length mesh.faces ≡ 0
IsFirstOpenFault mesh (EdgeSides low high sides) = IsOpenEdgeFault mesh low.0 high.0 sides
IsFirstOpenFault mesh NoBoundary = IsBoundaryFault mesh
IsFirstOpenFault mesh (Pinched vertex) = IsOpenPinchFault mesh vertex.0
IsFirstOpenFault mesh (Apart vertex other) = IsApartFault mesh vertex.0 other.0
IsFirstOpenFault mesh OutOfMemory = ⊥

-- the first edge of a table that has three or more sides
pub record IsFirstCrowded (table : List Edge) (k : ℕ) : Type 0 where
  pub in_table : k < length table
  pub crowded : 2 < length (edge_in table k).sides
  pub least : (j : ℕ) → j < k → length (edge_in table j).sides ≤ 2

-- an edge of a table that has one side
pub record IsBoundaryEdge (table : List Edge) (k : ℕ) : Type 0 where
  pub in_table : k < length table
  pub one_side : length (edge_in table k).sides ≡ 1

-- The edges of a table by the numbers of their sides.
use Rattle.std.specs.Prelude.{◌≡◌, ℕ, ◌<◌, true, List, length, map, slice_index}
use Rattle.surf_model.specs.FaceLists.{FaceList, total_sides, next_corner}
use Rattle.surf_model.specs.Darts.{side_number}
use Rattle.surf_model.specs.Edges.{Edge, IsTableOf, edge_in}

-- a mesh of which this is the table has a side with this number
pub record HasDart (table : List Edge) (dart : ℕ) : Type 0 where
  pub mesh : FaceList
  pub table_of : IsTableOf mesh table
  pub below : dart < total_sides mesh

-- the numbers of the sides of an edge, in order
abbrev pub edge_darts_of : FaceList → Edge → List ℕ
edge_darts_of mesh edge = map (side_number mesh) edge.sides

-- the two numbers stand in one edge of the table, the second behind the first, where the first one follows the last
pub record IsNextInEdge (mesh : FaceList) (table : List Edge) (dart next : ℕ) : Type 0 where
  pub edge : ℕ
  pub place : ℕ
  pub in_table : edge < length table
  pub in_edge : place < length (edge_darts_of mesh (edge_in table edge))
  pub here : slice_index (edge_darts_of mesh (edge_in table edge)) place ≡ dart
  pub there : slice_index (edge_darts_of mesh (edge_in table edge))
      (next_corner true (length (edge_darts_of mesh (edge_in table edge))) place) ≡ next

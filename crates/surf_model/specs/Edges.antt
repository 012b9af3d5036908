-- The table of the edges of a face list.
use Rattle.std.specs.Prelude.{◌≡◌, ℕ, ◌<◌, ◌⊎◌, List, [], length, map, filter, All, Any, AllPairs, IsTrue, slice_index_or}
use Rattle.surf_model.specs.FaceLists.{FaceList, FaceSide, all_sides, joins}
use Rattle.surf_model.specs.declared.edges.Side.{Side}

-- an edge: its two vertices, the lower first, and the sides that join them, by rising face and then place
pub record Edge : Type 0 where
  pub low : ℕ
  pub high : ℕ
  pub sides : List Side

-- the name of a side
abbrev pub side_name : FaceSide → Side
side_name side = record { face = record { 0 = side.face }; at = side.at }

-- the pair (a, b) comes before the pair (c, d)
abbrev pub IsPairBefore : ℕ → ℕ → ℕ → ℕ → Type 0
IsPairBefore a b c d = (a < c) ⊎ ((a ≡ c) × (b < d))

-- what the edge e of a mesh is
pub record IsEdgeOf (mesh : FaceList) (edge : Edge) : Type 0 where
  pub ordered : edge.low < edge.high
  pub sides : edge.sides ≡ map side_name (filter (joins edge.low edge.high) (all_sides mesh))
  pub some_side : 0 < length edge.sides

-- the table of a mesh: its edges, each once, numbered by rising lower and then by rising higher vertex
pub record IsTableOf (mesh : FaceList) (table : List Edge) : Type 0 where
  pub edges : All (IsEdgeOf mesh) table
  pub rising : AllPairs (λ (e f : Edge). IsPairBefore e.low e.high f.low f.high) table
  pub complete : All (λ (side : FaceSide). Any (λ (e : Edge). IsTrue (joins e.low e.high side)) table) (all_sides mesh)

-- edge k of a table; an edge without sides where the table has no such edge
abbrev pub edge_in : List Edge → ℕ → Edge
edge_in table k = slice_index_or table k (record { low = 0; high = 0; sides = [] })

-- the edge joins the two vertices, in either order
abbrev pub HasEnds : ℕ → ℕ → Edge → Type 0
HasEnds u v edge = ((edge.low ≡ u) × (edge.high ≡ v)) ⊎ ((edge.low ≡ v) × (edge.high ≡ u))

-- the vertex is an end of the edge
abbrev pub IsEndOf : ℕ → Edge → Type 0
IsEndOf v edge = (edge.low ≡ v) ⊎ (edge.high ≡ v)

-- From each side to its edge, and to the next side of that edge; and the vertices that edges have.
use Rattle.std.specs.Prelude.{◌≡◌, ℕ, ◌<◌, ◌==◌, ◌||◌, true, Bool, List, length, slice_index, slice_index_or}
use Rattle.surf_model.specs.FaceLists.{next_corner}
use Rattle.surf_model.specs.EdgeLists.{DartEdge, dart_edge_in}
use Rattle.surf_model.specs.declared.edge_list.SideEntry.{SideEntry}

-- the edge, and the side, that stand at the number of a side
abbrev pub edge_at : List SideEntry → ℕ → ℕ
edge_at links n = (slice_index_or links n (record { key = 0; dart = record { 0 = 0 } })).key

abbrev pub dart_at : List SideEntry → ℕ → ℕ
dart_at links n = (slice_index_or links n (record { key = 0; dart = record { 0 = 0 } })).dart.0

-- at the number of a side stands an edge that has it, and the side behind it there, where the first one follows the last
pub record IsLinked (edges : List DartEdge) (links : List SideEntry) (n : ℕ) : Type 0 where
  pub place : ℕ
  pub edge : edge_at links n < length edges
  pub in_edge : place < length (dart_edge_in edges (edge_at links n)).darts
  pub here : slice_index (dart_edge_in edges (edge_at links n)).darts place ≡ n
  pub next :
      slice_index (dart_edge_in edges (edge_at links n)).darts
      (next_corner true (length (dart_edge_in edges (edge_at links n)).darts) place) ≡ dart_at links n

-- whether the vertex is an end of the edge
abbrev pub is_end : ℕ → DartEdge → Bool
is_end v edge = edge.low == v || edge.high == v

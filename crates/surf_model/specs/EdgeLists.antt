-- How edges lie in memory: for each its two vertices, and the numbers of its sides, edge after edge.
use Rattle.std.specs.Prelude.{◌≡◌, ℕ, ◌≤◌, List, [], ◌∷◌, length, map, slice_index_or, sum_by}
use Rattle.surf_model.specs.Parts.{parts, EndsRise}
use Rattle.surf_model.specs.declared.edge_list.EdgeEnds.{EdgeEnds}
use Rattle.surf_model.specs.declared.edge_list.SideEntry.{SideEntry}
use Rattle.surf_model.specs.declared.names.DartName.{DartName}
use Rattle.surf_model.specs.declared.limits.TheConstants.{MOST_SIDES}

-- an edge: its two vertices, and the numbers of its sides
pub record DartEdge : Type 0 where
  pub low : ℕ
  pub high : ℕ
  pub darts : List ℕ

-- edge k of a list; an edge without sides where the list has no such edge
abbrev pub dart_edge_in : List DartEdge → ℕ → DartEdge
dart_edge_in edges k = slice_index_or edges k (record { low = 0; high = 0; darts = [] })

-- how many sides the edges have together
abbrev pub dart_count : List DartEdge → ℕ
dart_count edges = sum_by (λ (e : DartEdge). length e.darts) edges

-- the number of a side
abbrev pub dart_of : SideEntry → ℕ
dart_of side = side.dart.0

-- the edges with these ends, the sides of each being a part of the darts
abbrev pub zipped_edges : List EdgeEnds → List (List DartName) → List DartEdge
zipped_edges [] sides = []
zipped_edges (pair ∷ pairs) [] = []
zipped_edges (pair ∷ pairs) (part ∷ sides) =
    record { low = pair.low.0; high = pair.high.0; darts = map (λ d. d.0) part } ∷ zipped_edges pairs sides

abbrev pub stored_edges : List EdgeEnds → List ℕ → List DartName → List DartEdge
stored_edges pairs stops darts = zipped_edges pairs (parts 0 stops darts)

-- what holds of the three vectors
pub record IsEdgeList (pairs : List EdgeEnds) (stops : List ℕ) (darts : List DartName) : Type 0 where
  pub each_edge : length pairs ≡ length stops
  pub rising : EndsRise 0 stops (length darts)
  pub few_edges : length stops ≤ length darts
  pub few_sides : length darts ≤ MOST_SIDES

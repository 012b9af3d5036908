-- The edges of a table that have not two sides.
use Rattle.std.specs.Prelude.{◌≡◌, ◌≢◌, ℕ, ◌<◌, List, length}
use Rattle.surf_model.specs.Edges.{Edge, edge_in}

-- the first edge of a table that has not two sides
pub record IsFirstUneven (table : List Edge) (k : ℕ) : Type 0 where
  pub in_table : k < length table
  pub uneven : length (edge_in table k).sides ≢ 2
  pub least : (j : ℕ) → j < k → length (edge_in table j).sides ≡ 2

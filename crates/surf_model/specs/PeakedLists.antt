-- Lists of moves that lead from a walk to a walk, with their peaks.
use Rattle.std.specs.Prelude.{◌≡◌, ℕ, List}
use Rattle.surf_model.specs.FaceLists.{FaceList}
use Rattle.surf_model.specs.Moves.{PeakedMoves, Leads, greatest_darts}

-- The moves lead from the first walk to the second, and the peak is the greatest number of darts among the walks that they pass, both
-- included.
pub record LeadsAtPeak (mesh : FaceList) (first : List ℕ) (list : PeakedMoves) (second : List ℕ) : Type 0 where
  pub leads : Leads mesh first list.moves second
  pub peak : list.peak ≡ greatest_darts mesh first list.moves

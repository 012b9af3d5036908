-- Walks that lead off the cotree.
use Rattle.std.specs.Prelude.{ℕ, ◌≤◌, List, All}
use Rattle.surf_model.specs.Moves.{Leads}
use Rattle.surf_model.specs.Walks.{darts}
use Rattle.surf_model.specs.declared.moves.Move.{Move}
use Rattle.halfedge_map.specs.OrientedMeshes.{OrientedMesh}
use Rattle.tree_cotree.specs.Splits.{SplitView}
use Rattle.polygon_cut.specs.SpokeLoops.{LeavesCotree, IsOffCotree}

-- Moves that go round the faces below cotree edges in place of these lead from the walk to one with no dart on a cotree edge, of so many
-- darts at most.
pub record LeadsOffCotree (surface : OrientedMesh) (split : SplitView) (walk : List ℕ) (most : ℕ) : Type 0 where
  pub moves : List Move
  pub off : List ℕ
  pub leads : Leads surface.mesh walk moves off
  pub leave : All (LeavesCotree surface split) moves
  pub off_cotree : IsOffCotree surface split off
  pub few : darts off ≤ most

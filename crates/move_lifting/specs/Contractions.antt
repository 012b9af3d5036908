-- Closed walks that are contracted along the steps on their spokes.
use Rattle.std.specs.Prelude.{◌≡◌, ℕ, ◌<◌, List, [], ◌++◌, length, All}
use Rattle.surf_model.specs.FaceLists.{FaceList}
use Rattle.surf_model.specs.Moves.{PeakedMoves}
use Rattle.surf_model.specs.Walks.{IsWalk}
use Rattle.polygon_cut.specs.Polygons.{PolygonView}
use Rattle.spoke_paths.specs.PathSteps.{PathLeads}
use Rattle.move_lifting.specs.Lifts.{LeadsAtPeak}
use Rattle.move_lifting.specs.declared.reducing.Reduction.{Reduction}

-- the moves led from some walk to this one, with so many entries behind it
pub record IsLedFrom (mesh : FaceList) (behind : ℕ) (walk : List ℕ) (list : PeakedMoves) : Type 0 where
  pub first : List ℕ
  pub rest : List ℕ
  pub starts : IsWalk mesh first
  pub long : length rest ≡ behind
  pub leads : LeadsAtPeak mesh first list (walk ++ rest)
  pub some : 0 < length walk

-- the steps leave nothing of the spokes
pub record LeavesNothing (polygon : PolygonView) (reduction : Reduction) : Type 0 where
  pub wheel : reduction.wheel ≡ polygon.places
  pub below : All (λ spoke. spoke < polygon.degree) reduction.spokes.items
  pub leads : PathLeads polygon.places reduction.spokes.items reduction.steps.items []

-- How high the peak of a list of moves rises where turns are put into walks.
use Rattle.std.specs.Prelude.{ℕ, ◌+◌, ◌*◌, ◌<◌, ◌≤◌, max, List, ◌∷◌, ◌++◌, length, drop, slice_index, All}
use Rattle.surf_model.specs.FaceLists.{FaceList}
use Rattle.surf_model.specs.FreeWalks.{AreFreelyEqual, HasNoSpur}
use Rattle.surf_model.specs.Walks.{IsWalk, darts}
use Rattle.halfedge_map.specs.OrientedMeshes.{OrientedMesh}
use Rattle.tree_cotree.specs.Splits.{SplitView}
use Rattle.polygon_cut.specs.Polygons.{PolygonView}
use Rattle.polygon_cut.specs.ShortWalks.{AreShortAround}
use Rattle.polygon_cut.specs.SpokeLoops.{backward}
use Rattle.move_lifting.specs.LoopsPutIn.{IsFreelyPath}
use Rattle.move_lifting.specs.Tracks.{last_of}

-- A turn is put into a walk at the end of an approach, and no walk on the way round the turn has more than so many darts. From there a walk
-- without spurs leads back along the approach and on along the walk, up to spurs. The new peak is no greater than the old one, or than
-- there are darts on the approach, round the turn, back and on, and behind all that.
pub record RisesWithTurn (approach walk : List ℕ) (behind most old new : ℕ) : Type 0 where
  pub back : List ℕ
  pub no_spur : HasNoSpur back
  pub freely : (mesh : FaceList) → IsWalk mesh approach
      → AreFreelyEqual mesh (last_of approach ∷ (backward (slice_index walk 0) (drop 1 approach) ++ drop 1 walk)) back
  pub peak : new ≤ max old (darts approach + most + darts back + behind)

-- What loops put in make of the peak, for so many sides, entries behind and pairs of spokes. Twice the new peak keeps any bound that twice
-- the old one keeps, and that leaves room for ways that are short for the pairs, for the loop, and for what stands behind.
abbrev pub KeepsBound : ℕ → ℕ → ℕ → ℕ → ℕ → Type 0
KeepsBound sides behind pairs old new =
    (bound : ℕ) → 2 * old ≤ bound → 3 * (pairs * sides) + 4 * sides + 2 * behind ≤ bound + 6 * pairs + 4 → 2 * new ≤ bound

-- Up to spurs, the walk is the loop of no more than twice so many spokes, and the loop of the last side goes into it behind the spokes in
-- front along ways that are short for one pair more.
pub record GoesInShortly (surface : OrientedMesh) (split : SplitView) (polygon : PolygonView) (front walk : List ℕ) (pairs : ℕ) : Type 0
  where
    pub path : List ℕ
    pub below : All (λ spoke. spoke < polygon.degree) path
    pub few : length path ≤ 2 * pairs
    pub spokes : IsFreelyPath surface split polygon path walk
    pub around : AreShortAround surface split polygon front path (pairs + 1)

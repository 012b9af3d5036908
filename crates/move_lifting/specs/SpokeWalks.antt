-- Walks for the loops of spokes and for the loop of the last side.
use Rattle.std.specs.Prelude.{ℕ, ◌<◌, ◌≤◌, Bool, false, true, not, List, [], ◌∷◌, ◌++◌, length, drop, slice_index, slice_index_or, IfSome}
use Rattle.surf_model.specs.FreeWalks.{AreFreelyEqual, HasNoSpur}
use Rattle.surf_model.specs.Walks.{darts}
use Rattle.halfedge_map.specs.OrientedMeshes.{OrientedMesh}
use Rattle.halfedge_map.specs.DartMaps.{darts_of, origin_of}
use Rattle.tree_cotree.specs.Splits.{SplitView}
use Rattle.polygon_cut.specs.Polygons.{PolygonView}
use Rattle.polygon_cut.specs.SpokeLoops.{AreWaysUp, backward, spoke_loop, by_loop, last_side}
use Rattle.move_lifting.specs.Cuts.{IsCut}
use Rattle.move_lifting.specs.Lifts.{LeadsAtPeak}
use Rattle.move_lifting.specs.LoopsPutIn.{signed_loop}
use Rattle.move_lifting.specs.declared.expanding.TheConstants.{MOST_LIFTED_DARTS}
use Rattle.move_lifting.specs.declared.lifted.Lifted.{Lifted}
use Rattle.move_lifting.specs.declared.looping.Looper.{Looper}
use Rattle.move_lifting.specs.declared.looping.Looping.{Looping}
use Rattle.move_lifting.specs.declared.looping.Turns.{Turns}

-- the walk goes back along the loop of the spoke, from where the last side starts by way of the tree, and has no spur
pub record IsSpokeWalk (surface : OrientedMesh) (split : SplitView) (polygon : PolygonView) (spoke : ℕ) (walk : List ℕ) : Type 0 where
  pub no_spur : HasNoSpur walk
  pub freely : (root : ℕ) (ways : ℕ → List ℕ) → AreWaysUp surface split root ways
      → AreFreelyEqual surface.mesh
      (by_loop ways (origin_of surface (last_side polygon)) (origin_of surface (last_side polygon))
      (backward root (spoke_loop surface polygon root ways spoke))) walk

-- the walk with that number was made
abbrev pub HasWalk : List (List ℕ) → ℕ → Type 0
HasWalk walks spoke = 0 < length (slice_index_or walks spoke [])

-- each walk that was made is that of its spoke
abbrev pub AreSpokeWalks : OrientedMesh → SplitView → PolygonView → List (List ℕ) → Type 0
AreSpokeWalks surface split polygon walks =
    (spoke : ℕ) → HasWalk walks spoke → IsSpokeWalk surface split polygon spoke (slice_index_or walks spoke [])

-- along a walk that is kept backward, as the vertices behind its start, or back along it
abbrev pub along_or_back : Bool → List ℕ → List ℕ
along_or_back true walk = backward (slice_index walk 0) (drop 1 walk)
along_or_back false walk = drop 1 walk

-- the way along the walks of a list of numbers: there along the first, back along the second, and so on; or back along the first
abbrev pub walks_loop : List (List ℕ) → Bool → List ℕ → List ℕ
walks_loop walks along [] = []
walks_loop walks along (i ∷ path) = along_or_back along (slice_index_or walks i []) ++ walks_loop walks (not along) path

-- the walk is the loop of the last side, or if `back` the way back along it, and the moves lead to it from the vertex where that
-- side starts: no walk on the way has more darts than the surface
pub record IsLastLoop (surface : OrientedMesh) (split : SplitView) (polygon : PolygonView) (back : Bool) (lifted : Lifted) : Type 0 where
  pub leads : LeadsAtPeak surface.mesh (origin_of surface (last_side polygon) ∷ []) lifted.moves lifted.walk
  pub low : lifted.moves.peak ≤ darts_of surface
  pub short : darts lifted.walk ≤ darts_of surface
  pub no_spur : HasNoSpur lifted.walk
  pub freely : (root : ℕ) (ways : ℕ → List ℕ) → AreWaysUp surface split root ways
      → AreFreelyEqual surface.mesh lifted.walk
      (by_loop ways (origin_of surface (last_side polygon)) (origin_of surface (last_side polygon))
      (signed_loop surface polygon root ways back))

-- the loop of the last side and the way back along it, each with moves that lead to it
pub record AreLoopTurns (surface : OrientedMesh) (split : SplitView) (polygon : PolygonView) (turns : Turns) : Type 0 where
  pub forth : IsLastLoop surface split polygon false turns.forth
  pub back : IsLastLoop surface split polygon true turns.back

-- what a looper keeps: walks of spokes, and the loop of the last side with the way back along it, if they were made
pub record IsLooper (surface : OrientedMesh) (split : SplitView) (polygon : PolygonView) (looper : Looper) : Type 0 where
  pub spokes : AreSpokeWalks surface split polygon looper.spokes
  pub turns : IfSome looper.turns (AreLoopTurns surface split polygon)

-- the polygon is cut from the surface, and no more entries stand behind than a second walk has
pub record IsLooping (looping : Looping) : Type 0 where
  pub cut : IsCut looping.cut.now
  pub behind : looping.behind ≤ MOST_LIFTED_DARTS

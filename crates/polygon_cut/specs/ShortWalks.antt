-- Walks that are short up to spurs, measured by the sides of their surface.
use Rattle.std.specs.Prelude.{◌≡◌, ℕ, ◌+◌, ◌*◌, ◌≤◌, true, List, ◌++◌}
use Rattle.surf_model.specs.FaceLists.{is_used}
use Rattle.surf_model.specs.Walks.{darts}
use Rattle.surf_model.specs.FreeWalks.{AreFreelyEqual}
use Rattle.halfedge_map.specs.OrientedMeshes.{OrientedMesh}
use Rattle.halfedge_map.specs.DartMaps.{darts_of, origin_of}
use Rattle.tree_cotree.specs.Splits.{SplitView}
use Rattle.polygon_cut.specs.Polygons.{PolygonView}
use Rattle.polygon_cut.specs.SpokeLoops.{AreWaysUp, backward, by_loop, last_side, path_loop}

-- Up to spurs, the walk is one with few darts: less than half as many as the surface has sides, and for each of so many pairs less than
-- one and a half times as many more. Twice that is told, in whole numbers.
pub record IsFreelyShort (surface : OrientedMesh) (pairs : ℕ) (walk : List ℕ) : Type 0 where
  pub short : List ℕ
  pub freely : AreFreelyEqual surface.mesh walk short
  pub few : 2 * darts short + 6 * pairs + 2 ≤ 3 * (pairs * darts_of surface) + darts_of surface

-- Up to spurs, the way along the spokes in front to where the last side starts is short, and so is the way from there back along them and
-- then along the spokes of a path: for no more than so many pairs together.
pub record AreShortAround (surface : OrientedMesh) (split : SplitView) (polygon : PolygonView) (front path : List ℕ) (pairs : ℕ)
    : Type 0 where
  pub there : ℕ
  pub back : ℕ
  pub together : there + back ≤ pairs
  pub short_there : (root : ℕ) (ways : ℕ → List ℕ) (v : ℕ) → AreWaysUp surface split root ways → is_used surface.mesh v ≡ true
      → IsFreelyShort surface there
      (by_loop ways v (origin_of surface (last_side polygon)) (path_loop surface polygon root ways true front))
  pub short_back : (root : ℕ) (ways : ℕ → List ℕ) (v : ℕ) → AreWaysUp surface split root ways → is_used surface.mesh v ≡ true
      → IsFreelyShort surface back
      (by_loop ways (origin_of surface (last_side polygon)) v
      (backward root (path_loop surface polygon root ways true front) ++ path_loop surface polygon root ways true path))

-- Surfaces with what belongs to them: a split, and the polygon that the surface is cut into.
use Rattle.std.specs.Prelude.{◌<◌, ◌≤◌}
use Rattle.halfedge_map.specs.DartMaps.{darts_of}
use Rattle.halfedge_map.specs.OrientedMeshes.{OrientedMesh, IsOrientedSurface}
use Rattle.tree_cotree.specs.Splits.{SplitView, IsSplit}
use Rattle.polygon_cut.specs.Polygons.{PolygonView, IsCutFrom}
use Rattle.move_lifting.specs.declared.cut.Cut.{Cut}
use Rattle.move_lifting.specs.declared.cut.SplitSurface.{SplitSurface}
use Rattle.move_lifting.specs.declared.expanding.TheConstants.{MOST_LIFTED_SIDES}

-- the split is one of the surface, which is small enough for lists of moves
pub record IsSplitSurface (on : SplitSurface) : Type 0 where
  pub split : IsSplit on.surface.now on.split.now
  pub sides : darts_of on.surface.now ≤ MOST_LIFTED_SIDES

-- the polygon is cut from the surface along the split, and has sides
pub record IsCutSurface (surface : OrientedMesh) (split : SplitView) (polygon : PolygonView) : Type 0 where
  pub valid : IsOrientedSurface surface
  pub tree : IsSplit surface split
  pub cut : IsCutFrom surface split polygon
  pub some : 0 < polygon.degree

-- so it is with a cut, of a surface that is small enough
pub record IsCut (cut : Cut) : Type 0 where
  pub on : IsSplitSurface cut.on
  pub surface : IsCutSurface cut.on.surface.now cut.on.split.now cut.polygon.now

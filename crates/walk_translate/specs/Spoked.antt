-- A surface with its labels, and the spokes of its darts.
use Rattle.halfedge_map.specs.OrientedMeshes.{IsOrientedSurface}
use Rattle.walk_translate.specs.SurfaceLabels.{IsLabelledByCut}
use Rattle.walk_translate.specs.DartSpokes.{AreSpokesOf}
use Rattle.walk_translate.specs.declared.spoked.Spoked.{Spoked}

-- the labels are those of a polygon cut from the surface, and the spokes those of its darts under them
pub record IsSpoked (spoked : Spoked) : Type 0 where
  pub oriented : IsOrientedSurface spoked.surface.now
  pub labelled : IsLabelledByCut spoked.surface.now spoked.good.now
  pub kept : AreSpokesOf spoked.surface.now.mesh spoked.good.now spoked.surface.now.table spoked.kept.now

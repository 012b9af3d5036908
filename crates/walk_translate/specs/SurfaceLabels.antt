-- Labellings of a surface.
use Rattle.std.specs.Prelude.{◌≡◌, ℕ, ◌*◌, ◌<◌}
use Rattle.surf_model.specs.Genera.{HasGenus}
use Rattle.halfedge_map.specs.OrientedMeshes.{OrientedMesh}
use Rattle.tree_cotree.specs.Splits.{SplitView, IsSplit}
use Rattle.polygon_cut.specs.Polygons.{PolygonView, IsCutFrom}
use Rattle.labellings.specs.Labellings.{LabellingView, signs_of}
use Rattle.labellings.specs.GoodLabellings.{IsGood}
use Rattle.quad_system.specs.PolygonLabellings.{labelling_from, IsFull}

-- a good and full labelling with the signs of the surface and with four spokes for each of its handles, of which there are some
pub record IsSurfaceLabelling (surface : OrientedMesh) (labelling : LabellingView) : Type 0 where
  pub genus : ℕ
  pub has_genus : HasGenus surface.mesh genus
  pub some : 0 < genus
  pub degree : labelling.degree ≡ 4 * genus
  pub signs : signs_of labelling ≡ surface.signs
  pub good : IsGood surface.mesh labelling
  pub full : IsFull surface.mesh labelling

-- some split of the surface leaves no edge over
pub record HasSphereSplit (surface : OrientedMesh) : Type 0 where
  pub split : SplitView
  pub is_split : IsSplit surface split
  pub none : split.genus ≡ 0

-- the labelling is that of a polygon cut from the surface, which has some sides
pub record IsLabelledByCut (surface : OrientedMesh) (labelling : LabellingView) : Type 0 where
  pub split : SplitView
  pub polygon : PolygonView
  pub is_split : IsSplit surface split
  pub is_cut : IsCutFrom surface split polygon
  pub some : 0 < polygon.degree
  pub labelling_is : labelling ≡ labelling_from surface polygon

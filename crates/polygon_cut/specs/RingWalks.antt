-- Walks along the ring of tree and leftover edges.
use Rattle.std.specs.Prelude.{◌≡◌, ◌≢◌, ℕ, zero, suc, ◌<◌, if◌then◌else◌, List, [], ◌∷◌, ◌++◌}
use Rattle.halfedge_map.specs.Orbits.{after_steps}
use Rattle.halfedge_map.specs.OrientedMeshes.{OrientedMesh}
use Rattle.halfedge_map.specs.DartMaps.{twin_of, origin_of, edge_of}
use Rattle.tree_cotree.specs.Splits.{SplitView, in_cotree}
use Rattle.polygon_cut.specs.Polygons.{PolygonView, outer_ring}
use Rattle.polygon_cut.specs.SpokeLoops.{last_side}

-- The vertices to which one step along the ring leads from a dart: a tree or leftover dart is gone along, so its head comes next; past a
-- cotree dart one turns where it starts, and none comes.
abbrev pub ring_step : OrientedMesh → SplitView → ℕ → List ℕ
ring_step surface split dart =
    if in_cotree split (edge_of surface dart) then [] else origin_of surface (twin_of surface dart) ∷ []

-- the walk of so many steps along the ring, from where a dart starts, as the vertices behind that one
abbrev pub ring_walk : OrientedMesh → SplitView → ℕ → ℕ → List ℕ
ring_walk surface split zero dart = []
ring_walk surface split (suc k) dart =
    ring_walk surface split k dart ++ ring_step surface split (after_steps (outer_ring surface split) k dart)

-- An arc of the ring: so many steps lead from one dart to another, and none of them goes along the last side.
pub record IsRingArc (surface : OrientedMesh) (split : SplitView) (polygon : PolygonView) (from to steps : ℕ) : Type 0 where
  pub leads : after_steps (outer_ring surface split) steps from ≡ to
  pub before_last : (k : ℕ) → k < steps → after_steps (outer_ring surface split) k from ≢ last_side polygon

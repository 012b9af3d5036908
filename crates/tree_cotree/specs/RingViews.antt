-- What contracts see of the rings of a set of edges of a surface.
use Rattle.std.specs.Prelude.{◌≡◌, ℕ, ◌+◌, ◌<◌, Bool, false, List, length, map, slice_index, slice_index_or}
use Rattle.surf_model.specs.declared.names.DartName.{DartName}
use Rattle.halfedge_map.specs.Orbits.{IsReached}
use Rattle.halfedge_map.specs.OrientedMeshes.{OrientedMesh}
use Rattle.halfedge_map.specs.DartMaps.{darts_of, twin_of, edge_of}
use Rattle.halfedge_map.specs.RotationSystems.{rotations_of}
use Rattle.tree_cotree.specs.RingCounts.{ring_count}
use Rattle.tree_cotree.specs.SpanningTrees.{after_dart}

-- for each edge whether it is in the set, and for each dart the one after it on its ring
pub record RingView : Type 0 where
  pub inside : List Bool
  pub after : List ℕ

-- the numbers of darts
abbrev pub dart_numbers : List DartName → List ℕ
dart_numbers darts = map (λ d. d.0) darts

-- whether an edge is in a set
abbrev pub is_inside : List Bool → ℕ → Bool
is_inside set edge = slice_index_or set edge false

-- the rings are those of the set on the surface, by the rule
pub record AreRingsOf (surface : OrientedMesh) (rings : RingView) : Type 0 where
  pub each_edge : length rings.inside ≡ length surface.table
  pub each_dart : length rings.after ≡ darts_of surface
  pub rule : (d : ℕ) → d < darts_of surface → slice_index rings.after d ≡ after_dart (rotations_of surface) (is_inside rings.inside) d

-- how many rings there are
abbrev pub rings_of : RingView → ℕ
rings_of rings = ring_count (slice_index rings.after) (length rings.after)

-- With an edge put in or taken out there is one ring more where its two darts stood on one ring, and else one fewer.
pub record ChangesByOne (surface : OrientedMesh) (edge : ℕ) (old new : RingView) : Type 0 where
  pub more : (d : ℕ) → d < darts_of surface → edge_of surface d ≡ edge → IsReached (slice_index old.after) d (twin_of surface d)
      → rings_of new ≡ rings_of old + 1
  pub fewer : (d : ℕ) → d < darts_of surface → edge_of surface d ≡ edge → (IsReached (slice_index old.after) d (twin_of surface d) → ⊥)
      → rings_of old ≡ rings_of new + 1

-- How many rings a set of edges has, as a test on the numbers of the edges, and kept rings whose set has no edge, or every one.
use Rattle.std.specs.Prelude.{◌≡◌, ℕ, ◌<◌, Bool, true, false, length}
use Rattle.halfedge_map.specs.OrientedMeshes.{OrientedMesh}
use Rattle.halfedge_map.specs.RotationSystems.{Rotations}
use Rattle.tree_cotree.specs.RingCounts.{ring_count}
use Rattle.tree_cotree.specs.RingViews.{RingView, AreRingsOf, is_inside}
use Rattle.tree_cotree.specs.SpanningTrees.{after_dart}

-- how many rings a set has
abbrev pub rings_of_set : Rotations → (ℕ → Bool) → ℕ
rings_of_set maps inside = ring_count (after_dart maps inside) maps.darts

-- rings of a surface whose set has no edge
pub record HaveNoEdge (surface : OrientedMesh) (rings : RingView) : Type 0 where
  pub are : AreRingsOf surface rings
  pub out : (edge : ℕ) → edge < length surface.table → is_inside rings.inside edge ≡ false

-- rings of a surface whose set has every edge
pub record HaveEveryEdge (surface : OrientedMesh) (rings : RingView) : Type 0 where
  pub are : AreRingsOf surface rings
  pub within : (edge : ℕ) → edge < length surface.table → is_inside rings.inside edge ≡ true

-- The polygon into which a surface is cut along its tree and its leftover edges: its sides are the leftover darts, in the order
-- in which the ring of tree and leftover edges passes them. All numbers of sides are counted round, so after the last comes 0.
use Rattle.std.specs.Prelude.{◌≡◌, ℕ, not, ◌+◌, ◌-◌, ◌*◌, ◌<◌, Bool, true, false, ◌==◌, if◌then◌else◌, List, length, slice_index}
use Rattle.halfedge_map.specs.Orbits.{after_steps}
use Rattle.halfedge_map.specs.OrientedMeshes.{OrientedMesh}
use Rattle.halfedge_map.specs.RotationSystems.{Rotations, rotations_of}
use Rattle.tree_cotree.specs.Splits.{SplitView, IsSplit, in_cotree, is_left}
use Rattle.tree_cotree.specs.SpanningTrees.{after_dart}
use Rattle.tree_cotree.specs.Colourings.{ColouringView, colouring_of}

-- the ring of tree and leftover edges: the dart after a dart on it
abbrev pub outer_ring : OrientedMesh → SplitView → ℕ → ℕ
outer_ring surface split = after_dart (rotations_of surface) (λ e. not (in_cotree split e))

-- the number after i, and the number before it, of so many round
abbrev pub one_up : ℕ → ℕ → ℕ
one_up degree i = if i + 1 == degree then 0 else i + 1

abbrev pub one_down : ℕ → ℕ → ℕ
one_down degree i = if i == 0 then degree - 1 else i - 1

-- what a polygon tells: how many sides it has, the dart of each, the label of each dart, and the place of each spoke
pub record PolygonView : Type 0 where
  pub degree : ℕ
  pub sides : List ℕ
  pub labels : List ℕ
  pub places : List ℕ

abbrev pub side_at : PolygonView → ℕ → ℕ
side_at polygon i = slice_index polygon.sides i

abbrev pub label_of : PolygonView → ℕ → ℕ
label_of polygon dart = slice_index polygon.labels dart

abbrev pub place_of : PolygonView → ℕ → ℕ
place_of polygon spoke = slice_index polygon.places spoke

-- the side across: the one of the twin
abbrev pub across : Rotations → PolygonView → ℕ → ℕ
across maps polygon i = label_of polygon (maps.twin (side_at polygon i))

-- the first dart with a leftover edge at or after a dart on the ring
pub record IsFirstLeft (maps : Rotations) (ring : ℕ → ℕ) (left : ℕ → Bool) (dart first : ℕ) : Type 0 where
  pub steps : ℕ
  pub leads : after_steps ring steps dart ≡ first
  pub is_left : left (maps.edge first) ≡ true
  pub none_before : (k : ℕ) → k < steps → left (maps.edge (after_steps ring k dart)) ≡ false

-- The labels of a polygon: the sides are the leftover darts, numbered along the ring, and the label of a dart is the number of
-- the first side at or after it.
pub record IsLabelled (maps : Rotations) (ring : ℕ → ℕ) (left : ℕ → Bool) (polygon : PolygonView) : Type 0 where
  pub each_side : length polygon.sides ≡ polygon.degree
  pub each_dart : length polygon.labels ≡ maps.darts
  pub side_is_left : (i : ℕ) → i < polygon.degree → (side_at polygon i < maps.darts) × (left (maps.edge (side_at polygon i)) ≡ true)
  pub own_number : (i : ℕ) → i < polygon.degree → label_of polygon (side_at polygon i) ≡ i
  pub label_below : (d : ℕ) → d < maps.darts → label_of polygon d < polygon.degree
  pub first : (d : ℕ) → d < maps.darts → IsFirstLeft maps ring left d (side_at polygon (label_of polygon d))
  pub along : (i : ℕ) → i < polygon.degree → label_of polygon (ring (side_at polygon i)) ≡ one_up polygon.degree i

-- the map that turns round the one vertex: over the side across, to the one after it
abbrev pub turned : Rotations → PolygonView → ℕ → ℕ
turned maps polygon i = one_up polygon.degree (across maps polygon i)

-- The places of the spokes round the one vertex: each number below the degree once, and they fall by one with each turn.
pub record HasFallingPlaces (maps : Rotations) (polygon : PolygonView) : Type 0 where
  pub each_spoke : length polygon.places ≡ polygon.degree
  pub below : (i : ℕ) → i < polygon.degree → place_of polygon i < polygon.degree
  pub apart : (i j : ℕ) → i < polygon.degree → j < polygon.degree → place_of polygon i ≡ place_of polygon j → i ≡ j
  pub falls : (i : ℕ) → i < polygon.degree → place_of polygon (turned maps polygon i) ≡ one_down polygon.degree (place_of polygon i)

-- 'The polygon was cut from this surface with this split': it has twice as many sides as there are leftover edges, its labels ride
-- along the ring of tree and leftover edges, its last side lies in the root face of the cotree, and its places turn round the one
-- vertex; for four sides they rise by one with the spokes.
pub record IsCutFrom (surface : OrientedMesh) (split : SplitView) (polygon : PolygonView) : Type 0 where
  pub degree : polygon.degree ≡ 4 * split.genus
  pub labels : 0 < polygon.degree → IsLabelled (rotations_of surface) (outer_ring surface split) (is_left split) polygon
  pub last_side : 0 < polygon.degree → (rotations_of surface).face (side_at polygon (polygon.degree - 1)) ≡ split.root_face
  pub places : 0 < polygon.degree → HasFallingPlaces (rotations_of surface) polygon

-- 'The polygon was cut from this surface by these colours': whatever split of it tells them, the polygon was cut with that split.
abbrev pub IsCutByColours : OrientedMesh → ColouringView → PolygonView → Type 0
IsCutByColours surface colouring polygon =
    (split : SplitView) → IsSplit surface split → colouring_of split ≡ colouring → IsCutFrom surface split polygon

-- a polygon that was cut from a surface along some split of it
abbrev pub IsPolygonOf : OrientedMesh → PolygonView → Type 0
IsPolygonOf surface polygon = (split : SplitView) × IsSplit surface split × IsCutFrom surface split polygon

-- The labels at the tail and at the head of a dart and of its twin, by the kind of their edge.
pub record KindLabels (maps : Rotations) (tree cotree left : ℕ → Bool) (polygon : PolygonView) (d : ℕ) : Type 0 where
  pub of_tree : tree (maps.edge d) ≡ true → label_of polygon (maps.next d) ≡ label_of polygon d
  pub of_cotree : cotree (maps.edge d) ≡ true → label_of polygon (maps.next (maps.twin d)) ≡ label_of polygon d
  pub of_left : left (maps.edge d) ≡ true → label_of polygon (maps.next d) ≡ one_up polygon.degree (label_of polygon d)

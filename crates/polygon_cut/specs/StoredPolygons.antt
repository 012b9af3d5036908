-- How a polygon is made: darts along a ring with their labels, and the map that turns round the one vertex.
use Rattle.std.specs.Prelude.{◌≡◌, ℕ, ◌<◌, ◌-◌, Bool, true, not, if◌then◌else◌, [], List, length, slice_index}
use Rattle.surf_model.specs.declared.names.DartName.{DartName}
use Rattle.surf_model.specs.Numbers.{count_below}
use Rattle.halfedge_map.specs.Orbits.{after_steps, IsReached}
use Rattle.halfedge_map.specs.RotationSystems.{Rotations}
use Rattle.tree_cotree.specs.RingViews.{dart_numbers}
use Rattle.tree_cotree.specs.Splits.{is_cotree_kind}
use Rattle.tree_cotree.specs.declared.split.Kind.{Kind}
use Rattle.polygon_cut.specs.Polygons.{PolygonView, side_at, across, turned}

-- the dart after a dart on that ring, by the kind of its edge
abbrev pub dart_after_kind : Rotations → Kind → ℕ → ℕ
dart_after_kind maps kind dart = if not (is_cotree_kind kind) then maps.next dart else maps.next (maps.twin dart)

-- whether the dart that so many steps along the ring lead to is leftover
abbrev pub left_at : Rotations → (ℕ → ℕ) → (ℕ → Bool) → ℕ → ℕ → Bool
left_at maps ring left start k = left (maps.edge (after_steps ring k start))

-- how many leftover darts the first so many steps along the ring pass
abbrev pub left_before : Rotations → (ℕ → ℕ) → (ℕ → Bool) → ℕ → ℕ → ℕ
left_before maps ring left start k = count_below (left_at maps ring left start) k

-- The first darts along a ring are labelled, each by the number of leftover darts before it, and the leftover ones are listed.
pub record IsWalked (maps : Rotations) (ring : ℕ → ℕ) (left : ℕ → Bool) (start steps : ℕ) (sides labels : List ℕ) : Type 0 where
  pub each_dart : length labels ≡ maps.darts
  pub each_left : length sides ≡ left_before maps ring left start steps
  pub sides_are : (k : ℕ) → k < steps → left_at maps ring left start k ≡ true
      → slice_index sides (left_before maps ring left start k) ≡ after_steps ring k start
  pub labels_are : (k : ℕ) → k < steps → slice_index labels (after_steps ring k start) ≡ left_before maps ring left start k

-- the polygon with these sides and labels, whose places do not matter
abbrev pub without_places : List DartName → List ℕ → PolygonView
without_places sides labels = record { degree = length sides; sides = dart_numbers sides; labels = labels; places = [] }

-- turning round the one vertex takes the numbers of the sides to themselves, no two to one, and reaches all from 0
pub record TurnsRound (maps : Rotations) (polygon : PolygonView) : Type 0 where
  pub each_dart : length polygon.labels ≡ maps.darts
  pub side_within : (i : ℕ) → i < polygon.degree → side_at polygon i < maps.darts
  pub twin_within : (d : ℕ) → d < maps.darts → maps.twin d < maps.darts
  pub across_within : (i : ℕ) → i < polygon.degree → across maps polygon i < polygon.degree
  pub injective : (i j : ℕ) → i < polygon.degree → j < polygon.degree → turned maps polygon i ≡ turned maps polygon j → i ≡ j
  pub reaches : (j : ℕ) → j < polygon.degree → IsReached (turned maps polygon) 0 j

-- The places of the first so many sides that turning reaches from 0 fall by one with each turn.
pub record IsPlacedByTurns (degree : ℕ) (f : ℕ → ℕ) (turns : ℕ) (places : List ℕ) : Type 0 where
  pub each_spoke : length places ≡ degree
  pub first : 0 < turns → slice_index places 0 ≡ 0
  pub others : (k : ℕ) → 0 < k → k < turns → slice_index places (after_steps f k 0) ≡ degree - k

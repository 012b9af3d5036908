-- The laws of polygons, from those of rotation systems.
use Rattle.polygon_cut.proofs.Common.{rotation_system, darts_of, twin_of, edge_of, IsReached, OrientedMesh, IsOrientedSurface, rotations_of, PolygonView, IsCutFrom, KindLabels, label_of, place_of, across, turned, one_up, one_down, ◌≡◌, ℕ, ◌<◌, true, not, subst, arith, one_of_three, tree_has_ring, after_dart, SplitView, IsSplit, in_tree, in_cotree, is_left}
use Rattle.polygon_cut.proofs.PolygonLemmas.{kind_labels, turning_reaches_all}
use Rattle.polygon_cut.proofs.PlaceLemmas.{Crosses, sides_cross}
use Rattle.polygon_cut.proofs.QuadLemmas.{leftover_places, places_rise}

pub labels_ride : (s : OrientedMesh) (split : SplitView) (polygon : PolygonView) (d : ℕ) → IsOrientedSurface s → IsSplit s split
    → IsCutFrom s split polygon
    → 0 < polygon.degree → d < darts_of s → KindLabels (rotations_of s) (in_tree split) (in_cotree split) (is_left split) polygon d
labels_ride s split polygon d o t c some l =
    kind_labels (in_tree split) (in_cotree split) (rotation_system s o)
    (λ e k. one_of_three split ((rotations_of s).edge e)) (c.labels some) d l

pub every_side : (s : OrientedMesh) (split : SplitView) (polygon : PolygonView) (side : ℕ) → IsOrientedSurface s → IsSplit s split
    → IsCutFrom s split polygon
    → side < polygon.degree → IsReached (turned (rotations_of s) polygon) 0 side
every_side s split polygon side o t c l =
    turning_reaches_all (in_tree split) (in_cotree split) (rotation_system s o)
    (λ e k. one_of_three split ((rotations_of s).edge e)) (c.labels (omega arith)) (tree_has_ring s split o t.trees) side l

pub leftover : (s : OrientedMesh) (split : SplitView) (polygon : PolygonView) (d : ℕ) → IsOrientedSurface s → IsSplit s split
    → IsCutFrom s split polygon
    → 0 < polygon.degree → d < darts_of s → is_left split (edge_of s d) ≡ true
    → place_of polygon (one_up polygon.degree (label_of polygon (twin_of s d))) ≡ one_down polygon.degree
    (place_of polygon (label_of polygon d))
leftover s split polygon d o t c some l is =
    leftover_places (rotation_system s o) (c.labels some) (c.places some) d l is

pub four_places : (s : OrientedMesh) (split : SplitView) (polygon : PolygonView) (i : ℕ) → IsOrientedSurface s → IsSplit s split
    → IsCutFrom s split polygon
    → polygon.degree ≡ 4 → i < 4 → place_of polygon (one_up 4 i) ≡ one_up 4 (place_of polygon i)
four_places s split polygon i o t c four l =
    let some : 0 < polygon.degree = omega arith in
    let places = c.places some in
    let crosses : Crosses polygon.degree (across (rotations_of s) polygon) =
    sides_cross (rotations_of s) (after_dart (rotations_of s) (λ e. not (in_cotree split e))) (is_left split) polygon (rotation_system s o)
    (c.labels some) in
    places_rise (place_of polygon) (subst (λ n. Crosses n (across (rotations_of s) polygon)) four crosses)
    (λ j k. subst (λ n. IsReached (λ x. one_up n (across (rotations_of s) polygon x)) 0 j) four
    (every_side s split polygon j o t c (omega arith))) (λ j k. subst (λ n. place_of polygon j < n) four (places.below j (omega arith)))
    (λ j k. subst (λ n. place_of polygon (one_up n (across (rotations_of s) polygon j)) ≡ one_down n (place_of polygon j)) four
    (places.falls j (omega arith))) i l

-- What the cut of a surface makes is a polygon of the surface and its split.
use Rattle.polygon_cut.proofs.Common.{steps_within, rotation_system, names_all, darts_of, edge_of, face_of, after_steps, OrientedMesh, IsOrientedSurface, Rotations, rotations_of, IsRotationSystem, PolygonView, IsLabelled, IsCutFrom, IsCutByColours, across, turned, outer_ring, left_at, without_places, IsWalked, TurnsRound, IsPlacedByTurns, ◌≡◌, ℕ, ◌*◌, ◌^◌, ◌<◌, true, false, List, length, ◌-◌, ap, sym, ◌∙◌, subst, arith, inl, inr, cases_Bool, both_ways, slice_index, HasFileSize, count_below, DartName, one_of_three, tree_has_ring, without_ways, HasColouredTrees, dart_numbers, SplitView, HasTrees, in_tree, in_cotree, is_left}
use Rattle.tree_cotree.specs.Colourings.{ColouringView, colouring_of}
use Rattle.polygon_cut.proofs.CountLemmas.{count_at_most, count_along, count_darts, count_nothing}
use Rattle.polygon_cut.proofs.PlaceLemmas.{Crosses, sides_cross, turning_permutes}
use Rattle.polygon_cut.proofs.PolygonLemmas.{turning_reaches_all}
use Rattle.polygon_cut.proofs.RoundLemmas.{GoesRound, round_apart, round_reaches}
use Rattle.polygon_cut.proofs.WalkedLemmas.{IsWholeWalk, walk_labels, last_is}
use Rattle.polygon_cut.proofs.RingWalkLemmas.{ring_goes_round}
use Rattle.polygon_cut.proofs.TurningLemmas.{places_are}

abbrev pub polygon_of : ℕ → List ℕ → List ℕ → List ℕ → PolygonView
polygon_of degree sides labels places = record { degree = degree; sides = sides; labels = labels; places = places }

-- a whole walk along the ring of a split
abbrev pub IsRingWalk : OrientedMesh → SplitView → ℕ → List ℕ → List ℕ → Type 0
IsRingWalk s split last sides labels = IsWholeWalk (rotations_of s) (outer_ring s split) (is_left split) last sides labels

labelled : (s : OrientedMesh) (split : SplitView) (last degree : ℕ) (sides labels places : List ℕ) → IsRingWalk s split last sides labels
    → degree ≡ length sides → IsLabelled (rotations_of s) (outer_ring s split) (is_left split) (polygon_of degree sides labels places)
labelled s split last degree sides labels places w is =
    subst (λ (n : ℕ). IsLabelled (rotations_of s) (outer_ring s split) (is_left split) (polygon_of n sides labels places)) (sym is)
    (walk_labels places w)

pub turns_round : {s : OrientedMesh} {split : SplitView} (last degree : ℕ) (sides labels places : List ℕ) → IsOrientedSurface s
    → HasTrees s split
    → IsRingWalk s split last sides labels → degree ≡ length sides → TurnsRound (rotations_of s) (polygon_of degree sides labels places)
turns_round {s} {split} last degree sides labels places o t w is =
    let maps : Rotations = rotations_of s in
    let polygon : PolygonView = polygon_of degree sides labels places in
    let r : IsRotationSystem maps = rotation_system s o in
    let h : IsLabelled maps (outer_ring s split) (is_left split) polygon = labelled s split last degree sides labels places w is in
    let crosses : Crosses degree (across maps polygon) = sides_cross maps (outer_ring s split) (is_left split) polygon r h in
    record {
      each_dart = h.each_dart;
      side_within = λ i l. (h.side_is_left i l).0;
      twin_within = r.twin_within;
      across_within = crosses.below;
      injective = (turning_permutes crosses).injective;
      reaches = λ j l. turning_reaches_all (in_tree split) (in_cotree split) r (λ e k. one_of_three split (maps.edge e)) h
          (tree_has_ring s split o t) j l;
    }

-- there are four sides to each handle
four_each : {s : OrientedMesh} {colouring : ColouringView} (last : ℕ) (sides labels : List ℕ) → IsOrientedSurface s
    → HasColouredTrees s colouring → IsRingWalk s (without_ways colouring) last sides labels → length sides ≡ 4 * colouring.genus
four_each {s} {colouring} last sides labels o t w =
    let maps : Rotations = rotations_of s in
    let split : SplitView = without_ways colouring in
    let n : ℕ = darts_of s in
    let ring : ℕ → ℕ = outer_ring s split in
    let start : ℕ = ring last in
    let g : GoesRound n ring start = w.round in
    let along : count_below (left_at maps ring (is_left split) start) n ≡ count_below (λ d. is_left split (maps.edge d)) n =
    count_along (λ d. is_left split (maps.edge d)) (λ k. after_steps ring k start) n (λ k l. steps_within n ring g.permutes k start g.start)
    (round_apart g) (round_reaches g) in
    let doubled : count_below (λ d. is_left split (maps.edge d)) n ≡ 2 * count_below (is_left split) (length s.table) =
    count_darts (length s.table) (is_left split) (rotation_system s o) (names_all s o).edge_below (names_all s o).each_edge in
    omega (arith, along, doubled, t.genus, w.walked.each_left)

-- the sides are few
pub few_sides : (s : OrientedMesh) (split : SplitView) (last : ℕ) (sides labels : List ℕ) → HasFileSize s.mesh
    → IsRingWalk s split last sides labels → length sides < 2 ^ 32
few_sides s split last sides labels small w = grind (arith, count_at_most)

-- the walk that `last` ends
pub ring_walk : {s : OrientedMesh} {split : SplitView} (last : ℕ) {sides labels : List ℕ} → IsOrientedSurface s → HasTrees s split
    → last < darts_of s → is_left split (edge_of s last) ≡ true
    → IsWalked (rotations_of s) (outer_ring s split) (is_left split) (outer_ring s split last) (darts_of s) sides labels
    → IsRingWalk s split last sides labels
ring_walk last o t l is w = grind (arith, ring_goes_round)

cut_is : {s : OrientedMesh} {colouring : ColouringView} (last : ℕ) {degree : ℕ} (sides labels : List ℕ) {places : List ℕ} →
    IsOrientedSurface s
    → HasColouredTrees s colouring → IsRingWalk s (without_ways colouring) last sides labels → degree ≡ length sides
    → face_of s last ≡ colouring.root_face
    → IsPlacedByTurns degree (turned (rotations_of s) (polygon_of degree sides labels places)) degree places
    → IsCutFrom s (without_ways colouring) (polygon_of degree sides labels places)
cut_is {s} {colouring} last {degree} sides labels {places} o t w is root placed =
    let split : SplitView = without_ways colouring in
    let before : degree - 1 ≡ length sides - 1 = ap (λ (k : ℕ). k - 1) is in
    record {
      degree = is ∙ four_each last sides labels o t w;
      labels = λ some. labelled s split last degree sides labels places w is;
      last_side = λ some. ap (λ (k : ℕ). face_of s (slice_index sides k)) before
          ∙ ap (face_of s) (last_is w) ∙ root;
      places = λ some. places_are (turns_round last degree sides labels places o t.trees w is) some placed;
    }

-- places by turning, said of lists that are the same
pub placed_too : (s : OrientedMesh) (sides those : List DartName) (labels these : List ℕ) (degree : ℕ) {places : List ℕ} → sides ≡ those
    → labels ≡ these → degree ≡ length those
    → IsPlacedByTurns (length sides) (turned (rotations_of s) (without_places sides labels)) (length sides) places
    → IsPlacedByTurns degree (turned (rotations_of s) (polygon_of degree (dart_numbers those) these places)) degree places
placed_too s sides those labels these degree {places} one two three h = grind (arith, turned)

-- a cut looks at no way, so it is one with each split that tells the colours
any_split : {s : OrientedMesh} (colouring : ColouringView) {polygon : PolygonView} → IsCutFrom s (without_ways colouring) polygon
    → IsCutByColours s colouring polygon
any_split {s} colouring {polygon} h split is tells =
    let same : IsCutFrom s (without_ways (colouring_of split)) polygon = grind arith in
    record { degree = same.degree; labels = same.labels; last_side = same.last_side; places = same.places }

pub cut_by_colours_is : {s : OrientedMesh} {colouring : ColouringView} (last : ℕ) {degree : ℕ} (sides labels : List ℕ) {places : List ℕ}
    → IsOrientedSurface s → HasColouredTrees s colouring → IsRingWalk s (without_ways colouring) last sides labels
    → degree ≡ length sides → face_of s last ≡ colouring.root_face
    → IsPlacedByTurns degree (turned (rotations_of s) (polygon_of degree sides labels places)) degree places
    → IsCutByColours s colouring (polygon_of degree sides labels places)
cut_by_colours_is {colouring} last sides labels o t w is root placed =
    any_split colouring (cut_is last sides labels o t w is root placed)

-- without a leftover dart in the root face there is none at all
nothing_left : {s : OrientedMesh} {colouring : ColouringView} → IsOrientedSurface s → HasColouredTrees s colouring
    → ((d : ℕ) → d < darts_of s → face_of s d ≡ colouring.root_face → is_left (without_ways colouring) (edge_of s d) ≡ false)
    → colouring.genus ≡ 0
nothing_left {s} {colouring} o t none =
    let split : SplitView = without_ways colouring in
    let count : count_below (is_left split) (length s.table) ≡ 0 = count_nothing (is_left split) (length s.table) (λ e l.
    let dart = (names_all s o).each_edge e l in
    elim (cases_Bool (is_left split e)) [
      | inl left ↦
          let found = t.root_left dart.0 dart.1 (ap (is_left split) dart.2 ∙ left) in
          absurd (both_ways (is_left split (edge_of s found.0)) (none found.0 found.1 found.3) found.2)
      | inr other ↦ other
    ]) in
    omega (arith, count, t.genus)

-- so the polygon has no side
pub nothing_to_cut : {s : OrientedMesh} {colouring : ColouringView} (sides labels places : List ℕ) → IsOrientedSurface s
    → HasColouredTrees s colouring
    → ((d : ℕ) → d < darts_of s → face_of s d ≡ colouring.root_face → is_left (without_ways colouring) (edge_of s d) ≡ false)
    → IsCutByColours s colouring (polygon_of 0 sides labels places)
nothing_to_cut {colouring} sides labels places o t none = grind (arith, nothing_left, any_split)

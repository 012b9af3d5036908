-- The spokes of a walk with those of the side across in place of the last side's: every form that meets the two laws is led to the same
-- state as by the quad path.
use Rattle.quad_system.proofs.Common.{dart_between, rotation_system, darts_of, next_of, edge_of, OrientedMesh, IsOrientedSurface, rotations_of, IsDartFrom, PutLaws, pair, pair_belongs, led-append, labels_do, spokes, spokes_by_labels, quad_path, labels_ride, IsWay, Crosses, sides_cross, up_plain, walk_way, PolygonView, IsCutFrom, label_of, place_of, across, one_up, HasFreeSpokes, HaveFreeSpokes, last_side, across_last, spokes_along, labelling_from, IsQuadWheel, quad_of, ◌≡◌, ◌≢◌, inl, inr, ℕ, ◌+◌, ◌-◌, ◌<◌, true, not, List, [], ◌∷◌, length, refl, ap, sym, ◌∙◌, subst, arith, cases_eq, nat_tests, All-append, All-nil, All-cons, All, slice_index, IsWalk, after_dart, SplitView, IsSplit, in_cotree, is_left, IsQuad, led, add}
use Rattle.quad_system.proofs.PolygonLabelLemmas.{up_is_add}
use Rattle.quad_system.proofs.SpokeProductLemmas.{DartSpokes, dart_spokes, places_quads, spoke_at}

-- the wheel of the places of a polygon, by the number of places
pub places_wheel : (s : OrientedMesh) (split : SplitView) (polygon : PolygonView) → IsOrientedSurface s → IsSplit s split
    → IsCutFrom s split polygon → 0 < polygon.degree
    → IsQuadWheel (length polygon.places) (place_of polygon) (spoke_at polygon) (across (rotations_of s) polygon)
places_wheel s split polygon o t c some = (places_quads s split o t polygon c some).wheel

-- The last side is z, and k is the number of the side across from it: the spokes z, 0 and k + 1, k are the two sides of a quad, and the
-- last side has the labels z and 0.
record LastQuad (s : OrientedMesh) (polygon : PolygonView) (z k : ℕ) : Type 0 where
  quad : IsQuad polygon.places z k
  wraps : add (length polygon.places) z 1 ≡ 0
  plain : add (length polygon.places) k 1 ≡ k + 1
  next_in : k + 1 < length polygon.places
  within : last_side polygon < darts_of s
  tail : label_of polygon (last_side polygon) ≡ z
  head : label_of polygon (next_of s (last_side polygon)) ≡ 0

last_quad : (s : OrientedMesh) (split : SplitView) (polygon : PolygonView) → IsOrientedSurface s → IsSplit s split
    → IsCutFrom s split polygon → 0 < polygon.degree
    → LastQuad s polygon (polygon.degree - 1) (across_last s polygon)
last_quad s split polygon o t c some = record {
  quad = quad_of polygon.places (spoke_at polygon) (across (rotations_of s) polygon) (places_wheel s split polygon o t c some) z
      (omega (arith, number));
  wraps = ap (λ n. add n z 1) number ∙ up_is_add polygon.degree z z_in ∙ goes_round polygon.degree some;
  plain = ap (λ n. add n k 1) number ∙ up_is_add polygon.degree k k_in ∙ up_plain polygon.degree k (omega (arith, k_in, apart))
      ∙ omega arith;
  next_in = omega (arith, number, k_in, apart);
  within = left.0;
  tail = tail;
  head = (labels_ride s split polygon (last_side polygon) o t c some left.0).of_left left.1 ∙ ap (one_up polygon.degree) tail
      ∙ goes_round polygon.degree some;
}
  where
    z : ℕ
    z = polygon.degree - 1

    k : ℕ
    k = across_last s polygon

    number : length polygon.places ≡ polygon.degree
    number = (c.places some).each_spoke

    z_in : polygon.degree - 1 < polygon.degree
    z_in = omega arith

    cross : Crosses polygon.degree (across (rotations_of s) polygon)
    cross = sides_cross (rotations_of s) (after_dart (rotations_of s) (λ e. not (in_cotree split e))) (is_left split) polygon
        (rotation_system s o) (c.labels some)

    k_in : across_last s polygon < polygon.degree
    k_in = cross.below (polygon.degree - 1) z_in

    apart : across_last s polygon ≢ polygon.degree - 1
    apart = cross.other (polygon.degree - 1) z_in

    left : (last_side polygon < darts_of s) × (is_left split (edge_of s (last_side polygon)) ≡ true)
    left = (c.labels some).side_is_left (polygon.degree - 1) z_in

    tail : label_of polygon (last_side polygon) ≡ polygon.degree - 1
    tail = (c.labels some).own_number (polygon.degree - 1) z_in

    goes_round : (n : ℕ) → 0 < n → one_up n (n - 1) ≡ 0
    goes_round n m = grind (arith, nat_tests)

labels_in : (s : OrientedMesh) (split : SplitView) (polygon : PolygonView) → IsOrientedSurface s → IsCutFrom s split polygon
    → 0 < polygon.degree
    → (d : ℕ) → d < darts_of s → (label_of polygon d < length polygon.places) × (label_of polygon (next_of s d) < length polygon.places)
labels_in s split polygon o c some d l = (
  subst (λ n. label_of polygon d < n) (sym (c.places some).each_spoke) ((c.labels some).label_below d l),
  subst (λ n. label_of polygon (next_of s d) < n) (sym (c.places some).each_spoke)
      ((c.labels some).label_below (next_of s d) ((rotation_system s o).next_within d l)),
)

free_leads : {State : Type 0} (s : OrientedMesh) (split : SplitView) (polygon : PolygonView) → IsOrientedSurface s → IsSplit s split
    → IsCutFrom s split polygon → 0 < polygon.degree
    → (next : List ℕ → State → ℕ → State) (Belongs IsAtVertex : State → Type 0) → PutLaws polygon.places next Belongs IsAtVertex
    → (d : ℕ) → d < darts_of s → (path : List ℕ) → HasFreeSpokes s polygon d path → (x : State) → Belongs x → IsAtVertex x
    → led next polygon.places x path ≡ pair polygon.places next x (label_of polygon d) (label_of polygon (next_of s d))
free_leads s split polygon o t c some next Belongs IsAtVertex laws d l path free x b v = elim (cases_eq d (last_side polygon)) [
  | inl same ↦
      let q : LastQuad s polygon (polygon.degree - 1) (across_last s polygon) = last_quad s split polygon o t c some in
      let z : ℕ = polygon.degree - 1 in
      let k : ℕ = across_last s polygon in
      let P : List ℕ = polygon.places in
      let tail : label_of polygon d ≡ z = ap (label_of polygon) same ∙ q.tail in
      let head : label_of polygon (next_of s d) ≡ 0 = ap (λ y. label_of polygon (next_of s y)) same ∙ q.head in
      ap (led next P x) (free.last same) ∙ ap (λ y. pair P next x y k) (sym q.plain) ∙ sym (laws.quad x z k b v q.quad)
      ∙ ap (pair P next x z) (q.wraps ∙ sym head) ∙ ap (λ y. pair P next x y (label_of polygon (next_of s d))) (sym tail)
  | inr apart ↦ elim (free.other apart) [
    | inl both ↦ ap (led next polygon.places x) both
    | inr none ↦
        ap (led next polygon.places x) none.0 ∙ sym (laws.back x (label_of polygon d) b (labels_in s split polygon o c some d l).0)
        ∙ ap (pair polygon.places next x (label_of polygon d)) none.1
  ]
]

own_leads : {State : Type 0} (s : OrientedMesh) (split : SplitView) (polygon : PolygonView) → IsOrientedSurface s → IsSplit s split
    → IsCutFrom s split polygon → 0 < polygon.degree
    → (next : List ℕ → State → ℕ → State) (Belongs IsAtVertex : State → Type 0) → PutLaws polygon.places next Belongs IsAtVertex
    → (u v d : ℕ) → IsDartFrom (rotations_of s) u v d → (x : State) → Belongs x → IsAtVertex x
    → led next polygon.places x (spokes s.mesh (labelling_from s polygon) u v) ≡ pair polygon.places next x (label_of polygon d)
    (label_of polygon (next_of s d))
own_leads s split polygon o t c some next Belongs IsAtVertex laws u v d from x b at =
    let labels : DartSpokes s polygon d = dart_spokes s split polygon o t c some d from.within in
    let own : spokes s.mesh (labelling_from s polygon) u v ≡ spokes_by_labels (label_of polygon d) (label_of polygon (next_of s d))
    labels.c labels.e = grind (arith, spokes) in
    ap (led next polygon.places x) own
    ∙ labels_do polygon.places next Belongs IsAtVertex laws (label_of polygon d) (label_of polygon (next_of s d)) labels.c labels.e
    (labels_in s split polygon o c some d from.within).0 x b

-- the spokes of a walk lead a form as its quad path does
pub free_path_leads : {State : Type 0} (s : OrientedMesh) (split : SplitView) (polygon : PolygonView) → IsOrientedSurface s
    → IsSplit s split → IsCutFrom s split polygon → 0 < polygon.degree
    → (next : List ℕ → State → ℕ → State) (Belongs IsAtVertex : State → Type 0) → PutLaws polygon.places next Belongs IsAtVertex
    → (some_spokes : ℕ → ℕ → List ℕ) → HaveFreeSpokes s polygon some_spokes → (u v : ℕ) (rest : List ℕ) → IsWay s.mesh u v rest
    → (x : State) → Belongs x → IsAtVertex x
    → led next polygon.places x (spokes_along some_spokes (u ∷ rest)) ≡ led next polygon.places x
    (quad_path s.mesh (labelling_from s polygon) (u ∷ rest))
free_path_leads s split polygon o t c some next Belongs IsAtVertex laws some_spokes free u v [] way x b at = refl
free_path_leads {State = State} s split polygon o t c some next Belongs IsAtVertex laws some_spokes free u v (w ∷ rest) way x b at =
    let found = dart_between s o u w way.0 in
    let d : ℕ = found.0 in
    let P : List ℕ = polygon.places in
    let q : List ℕ = spokes s.mesh (labelling_from s polygon) u w in
    let labels = labels_in s split polygon o c some d found.1.within in
    let a : ℕ = label_of polygon d in
    let e : ℕ = label_of polygon (next_of s d) in
    let y : State = pair P next x a e in
    let here : led next P x (some_spokes u w) ≡ y = free_leads s split polygon o t c some next Belongs IsAtVertex laws d found.1.within
    (some_spokes u w) (free u w d found.1) x b at in
    let there : led next P x q ≡ y = own_leads s split polygon o t c some next Belongs IsAtVertex laws u w d found.1 x b at in
    let on : led next P y (spokes_along some_spokes (w ∷ rest)) ≡ led next P y (quad_path s.mesh (labelling_from s polygon) (w ∷ rest)) =
    free_path_leads s split polygon o t c some next Belongs IsAtVertex laws some_spokes free w v rest way.1 y
    (pair_belongs P next Belongs IsAtVertex laws x a e b labels.0 labels.1) (laws.vertex x a e b at labels.0 labels.1) in
    led-append next P x (some_spokes u w) (spokes_along some_spokes (w ∷ rest))
    ∙ ap (λ z. led next P z (spokes_along some_spokes (w ∷ rest))) here ∙ on
    ∙ ap (λ z. led next P z (quad_path s.mesh (labelling_from s polygon) (w ∷ rest))) (sym there)
    ∙ sym (led-append next P x q (quad_path s.mesh (labelling_from s polygon) (w ∷ rest)))

-- and they are below the degree
free_in : (s : OrientedMesh) (split : SplitView) (polygon : PolygonView) → IsOrientedSurface s → IsSplit s split
    → IsCutFrom s split polygon → 0 < polygon.degree
    → (d : ℕ) → d < darts_of s → (path : List ℕ) → HasFreeSpokes s polygon d path → All (λ i. i < length polygon.places) path
free_in s split polygon o t c some d l path free =
    let n : ℕ = length polygon.places in
    let none : All (λ i. i < length polygon.places) [] = All-nil (λ i. i < n) in
    let labels = labels_in s split polygon o c some d l in
    let q : LastQuad s polygon (polygon.degree - 1) (across_last s polygon) = last_quad s split polygon o t c some in
    elim (cases_eq d (last_side polygon)) [
      | inl same ↦
          rw (free.last same)
          (All-cons (λ i. i < n) (across_last s polygon + 1) (across_last s polygon ∷ []) q.next_in
          (All-cons (λ i. i < n) (across_last s polygon) [] q.quad.c_below none))
      | inr apart ↦ elim (free.other apart) [
        | inl both ↦
            rw both
            (All-cons (λ i. i < n) (label_of polygon d) (label_of polygon (next_of s d) ∷ []) labels.0
            (All-cons (λ i. i < n) (label_of polygon (next_of s d)) [] labels.1 none))
        | inr nothing ↦ rw nothing.0 none
      ]
    ]

pub free_path_below : (s : OrientedMesh) (split : SplitView) (polygon : PolygonView) → IsOrientedSurface s → IsSplit s split
    → IsCutFrom s split polygon → 0 < polygon.degree
    → (some_spokes : ℕ → ℕ → List ℕ) → HaveFreeSpokes s polygon some_spokes → (u v : ℕ) (rest : List ℕ) → IsWay s.mesh u v rest
    → All (λ i. i < length polygon.places) (spokes_along some_spokes (u ∷ rest))
free_path_below s split polygon o t c some some_spokes free u v [] way = All-nil (λ i. i < length polygon.places)
free_path_below s split polygon o t c some some_spokes free u v (w ∷ rest) way =
    let found = dart_between s o u w way.0 in
    All-append (λ i. i < length polygon.places) (some_spokes u w) (spokes_along some_spokes (w ∷ rest))
    (free_in s split polygon o t c some found.0 found.1.within (some_spokes u w) (free u w found.0 found.1))
    (free_path_below s split polygon o t c some some_spokes free w v rest way.1)

-- the same of walks
pub free_walk_leads : {State : Type 0} (s : OrientedMesh) (split : SplitView) (polygon : PolygonView) → IsOrientedSurface s
    → IsSplit s split → IsCutFrom s split polygon → 0 < polygon.degree
    → (next : List ℕ → State → ℕ → State) (Belongs IsAtVertex : State → Type 0) → PutLaws polygon.places next Belongs IsAtVertex
    → (some_spokes : ℕ → ℕ → List ℕ) → HaveFreeSpokes s polygon some_spokes → (walk : List ℕ) → IsWalk s.mesh walk → (x : State)
    → Belongs x → IsAtVertex x
    → led next polygon.places x (spokes_along some_spokes walk) ≡ led next polygon.places x
    (quad_path s.mesh (labelling_from s polygon) walk)
free_walk_leads s split polygon o t c some next Belongs IsAtVertex laws some_spokes free [] w x b at = refl
free_walk_leads s split polygon o t c some next Belongs IsAtVertex laws some_spokes free (u ∷ rest) w x b at =
    free_path_leads s split polygon o t c some next Belongs IsAtVertex laws some_spokes free u (slice_index (u ∷ rest) (length rest))
    rest (walk_way s.mesh u rest w) x b at

pub free_walk_below : (s : OrientedMesh) (split : SplitView) (polygon : PolygonView) → IsOrientedSurface s → IsSplit s split
    → IsCutFrom s split polygon → 0 < polygon.degree
    → (some_spokes : ℕ → ℕ → List ℕ) → HaveFreeSpokes s polygon some_spokes → (walk : List ℕ) → IsWalk s.mesh walk
    → All (λ i. i < length polygon.places) (spokes_along some_spokes walk)
free_walk_below s split polygon o t c some some_spokes free [] w = All-nil (λ i. i < length polygon.places)
free_walk_below s split polygon o t c some some_spokes free (u ∷ rest) w =
    free_path_below s split polygon o t c some some_spokes free u (slice_index (u ∷ rest) (length rest)) rest (walk_way s.mesh u rest w)

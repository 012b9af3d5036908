-- Each edge of the double has two sides, where no edge of the mesh has three and the corners at each vertex make one ring or one fan.
use Rattle.closed_doubles.proofs.Common.{after_in_mesh, corner_used, NoEdgeHasThreeSides, EachVertexHasOneRing, no_side, rims, is_rim, double_of, ◌≡◌, ◌≢◌, ◌⊎◌, inl, inr, ℕ, ◌+◌, ◌-◌, ◌<◌, ◌≤◌, true, false, ◌||◌, List, [], ◌∷◌, length, get_or, refl, ap, ap₂, sym, ◌∙◌, subst, arith, cases_eq, cases_lt, eq-eqb, ne_eqb, nat_tests, All-filter, filter_passes, AllPairs-filter, AllPairs, filter, ◌==◌, IsWholeSide, whole_side, sides_between_swap, side_number, side_name, FaceList, FaceSide, IsFaceList, all_sides, sides_between, EachEdgeHasTwoSides, HasOneRing, Side}
use Rattle.std.specs.Prelude.{Bool}
use Rattle.closed_doubles.proofs.SideSums.{side_sum}
use Rattle.closed_doubles.proofs.DoubleEdges.{AllBelow, sides_below, filter_below, touches, rim_count, rim_part, double_low, double_high, double_across}
use Rattle.closed_doubles.proofs.RimParity.{IsEven, rims_even}
use Rattle.closed_doubles.proofs.SidePlaces.{IsAlone, alone, some_side}
use Rattle.closed_doubles.proofs.Fans.{IsAt, one_more_rim}

-- whether a side has an end at the vertex
abbrev touching : ℕ → FaceSide → Bool
touching a s = s.tail == a || s.head == a

touch_count : (n a : ℕ) (sides : List FaceSide) → AllBelow n sides → side_sum (touches a) sides ≡ length (filter (touching a) sides)
touch_count n a [] h = refl
touch_count n a (s ∷ sides) h =
    let more = touch_count n a sides h.3 in
    elim (cases_eq s.tail a) [
      | inl tail ↦
          (let here : (s.tail == a) ≡ true = eq-eqb s.tail a tail in
          let there : (s.head == a) ≡ false = ne_eqb s.head a (λ e. h.2 (tail ∙ sym e)) in
          rw (here, there) (omega (arith, more)))
      | inr off ↦
          (let here : (s.tail == a) ≡ false = ne_eqb s.tail a off in
          elim (cases_eq s.head a) [
            | inl head ↦
                (let there : (s.head == a) ≡ true = eq-eqb s.head a head in
                rw (here, there) (omega (arith, more)))
            | inr away ↦
                (let there : (s.head == a) ≡ false = ne_eqb s.head a away in
                rw (here, there) (omega (arith, more)))
          ])
    ]

-- the sides on the boundary with an end at the vertex
abbrev rims_at : FaceList → ℕ → List FaceSide
rims_at mesh a = filter (touching a) (rims mesh)

pub record IsRimAt (mesh : FaceList) (a : ℕ) (side : Side) : Type 0 where
  pub at : IsAt mesh a side
  pub rim : IsAlone mesh side

touch_cases : (a : ℕ) (s : FaceSide) → touching a s ≡ true → (s.tail ≡ a) ⊎ (s.head ≡ a)
touch_cases a s h = grind (arith, nat_tests)

one_side : (n : ℕ) → (n == 1) ≡ true → n ≡ 1
one_side n h = grind (arith, nat_tests)

pub rim_is_alone : (mesh : FaceList) (k : ℕ) (s : FaceSide) → IsWholeSide mesh k s → is_rim mesh s ≡ true → IsAlone mesh (side_name s)
rim_is_alone mesh k s whole rim =
    alone mesh (side_name s) (ap₂ (sides_between mesh) (sym whole.tail) (sym whole.head) ∙ one_side (sides_between mesh s.tail s.head) rim)

is_rim_at : (mesh : FaceList) (a k : ℕ) → k < length (rims_at mesh a) → IsRimAt mesh a (side_name (get_or (rims_at mesh a) k no_side))
is_rim_at mesh a k l =
    let s : FaceSide = get_or (rims_at mesh a) k no_side in
    let touch : touching a s ≡ true = filter_passes (touching a) (rims mesh) k no_side l in
    let rim : is_rim mesh s ≡ true =
    All-filter (touching a) (λ (x : FaceSide). is_rim mesh x ≡ true) (rims mesh)
    (λ j e b. filter_passes (is_rim mesh) (all_sides mesh) j e b) k no_side l in
    let whole : (j : ℕ) × IsWholeSide mesh j s =
    All-filter (touching a) (λ (x : FaceSide). (j : ℕ) × IsWholeSide mesh j x) (rims mesh)
    (All-filter (is_rim mesh) (λ (x : FaceSide). (j : ℕ) × IsWholeSide mesh j x) (all_sides mesh) (λ j e b. (j, whole_side mesh j e b)))
    k no_side l in
    record {
      at = record {
        side_of = whole.1.side_of;
        end = elim (touch_cases a s touch) [ inl e ↦ inl (sym whole.1.tail ∙ e) | inr e ↦ inr (sym whole.1.head ∙ e) ];
      };
      rim = rim_is_alone mesh whole.0 s whole.1 rim;
    }

rims_rise : (mesh : FaceList) (a i j : ℕ) → i < j → j < length (rims_at mesh a)
    → side_number mesh (side_name (get_or (rims_at mesh a) i no_side)) < side_number mesh (side_name (get_or (rims_at mesh a) j no_side))
rims_rise mesh a i j less l =
    let Rises : FaceSide → FaceSide → Type 0 = λ s t. side_number mesh (side_name s) < side_number mesh (side_name t) in
    let rise : AllPairs Rises (all_sides mesh) = λ p q e s t. grind (arith, whole_side) in
    AllPairs-filter Rises (touching a) (rims mesh) (AllPairs-filter Rises (is_rim mesh) (all_sides mesh) rise) i j no_side less l

pub at_used : (mesh : FaceList) (a : ℕ) (side : Side) → IsAt mesh a side → EachVertexHasOneRing mesh → HasOneRing mesh a
at_used mesh a side h ring = grind (arith, corner_used, after_in_mesh)

-- at most two
few_rims : (mesh : FaceList) (a : ℕ) → IsFaceList mesh → NoEdgeHasThreeSides mesh → EachVertexHasOneRing mesh
    → length (rims_at mesh a) ≤ 2
few_rims mesh a valid few ring =
    elim (cases_lt 2 (length (rims_at mesh a))) [
      | inr few_enough ↦ omega arith
      | inl more ↦
          (let side : ℕ → Side = λ k. side_name (get_or (rims_at mesh a) k no_side) in
          let zeroth : IsRimAt mesh a (side 0) = is_rim_at mesh a 0 (omega arith) in
          let first : IsRimAt mesh a (side 1) = is_rim_at mesh a 1 (omega arith) in
          let second : IsRimAt mesh a (side 2) = is_rim_at mesh a 2 more in
          let differ : (i j : ℕ) → i < j → j < length (rims_at mesh a) → side j ≢ side i =
          λ i j less l same. omega (arith, rims_rise mesh a i j less l, ap (side_number mesh) same) in
          absurd (differ 1 2 (omega arith) more
          (sym (one_more_rim mesh a (side 0) valid few zeroth.at zeroth.rim (side 1) (side 2) (at_used mesh a (side 0) zeroth.at ring)
          first.at first.rim (differ 0 1 (omega arith) (omega arith)) second.at second.rim (differ 0 2 (omega arith) more)))))
    ]

-- so two, or none
pub two_rims : (mesh : FaceList) (a : ℕ) → IsFaceList mesh → NoEdgeHasThreeSides mesh → EachVertexHasOneRing mesh
    → 0 < rim_count mesh a → rim_count mesh a ≡ 2
two_rims mesh a valid few ring some =
    let even : IsEven (rim_count mesh a) = rims_even mesh a valid few in
    let size : rim_count mesh a ≡ length (rims_at mesh a) = grind (arith, touch_count, filter_below, sides_below) in
    omega (arith, some, size, few_rims mesh a valid few ring, even.even)

-- ---- each edge of the double

becomes_two : (n : ℕ) → n ≤ 2 → 0 < n + rim_part n → n + rim_part n ≡ 2
becomes_two n few some = grind (arith, nat_tests)

across_two : (mesh : FaceList) (a b : ℕ) → IsFaceList mesh → NoEdgeHasThreeSides mesh → EachVertexHasOneRing mesh → a < mesh.count
    → 0 < sides_between (double_of mesh) a (b + mesh.count) → sides_between (double_of mesh) a (b + mesh.count) ≡ 2
across_two mesh a b valid few ring la some = grind (arith, double_across, two_rims)

pub double_two_sides : (mesh : FaceList) → IsFaceList mesh → NoEdgeHasThreeSides mesh → EachVertexHasOneRing mesh
    → EachEdgeHasTwoSides (double_of mesh)
double_two_sides mesh valid few ring u v is =
    let n : ℕ = mesh.count in
    let some : 0 < sides_between (double_of mesh) u v = some_side (double_of mesh) u v is in
    elim (cases_lt u n) [
      | inl low ↦ elim (cases_lt v n) [
        | inl below ↦
            (let size = double_low mesh u v valid low below in
            size ∙ becomes_two (sides_between mesh u v) (few u v) (omega (arith, some, size)))
        | inr above ↦
            (let over : v - n + n ≡ v = omega (arith, above) in
            subst (λ w. sides_between (double_of mesh) u w ≡ 2) over
            (across_two mesh u (v - n) valid few ring low (subst (λ w. 0 < sides_between (double_of mesh) u w) (sym over) some)))
      ]
      | inr high ↦
          (let up : u - n + n ≡ u = omega (arith, high) in
          elim (cases_lt v n) [
            | inl below ↦
                (let turned = sides_between_swap (double_of mesh) u v in
                let back : 0 < sides_between (double_of mesh) v u = omega (arith, some, turned) in
                turned
                ∙ subst (λ w. sides_between (double_of mesh) v w ≡ 2) up
                (across_two mesh v (u - n) valid few ring below (subst (λ w. 0 < sides_between (double_of mesh) v w) (sym up) back)))
            | inr above ↦
                (let over : v - n + n ≡ v = omega (arith, above) in
                let ends : sides_between (double_of mesh) (u - n + n) (v - n + n) ≡ sides_between (double_of mesh) u v = grind arith in
                let size = double_high mesh (u - n) (v - n) valid in
                sym ends ∙ size
                ∙ becomes_two (sides_between mesh (u - n) (v - n)) (few (u - n) (v - n)) (omega (arith, some, size, ends)))
          ])
    ]

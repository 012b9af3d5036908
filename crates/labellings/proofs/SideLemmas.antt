-- Under a good labelling each dart of the mesh runs along one side, and its edge's other side runs against it.
use Rattle.labellings.proofs.Common.{IsGood, EdgeMeetsRule, SidesMeetRule, LabellingView, signs_of, tail_label, head_label, side_from, spokes, spokes_of_sides, spokes_by_labels, ◌≡◌, ◌≢◌, ◌⊎◌, inl, inr, ℕ, zero, suc, Bool, true, false, ◌&&◌, eqb, List, [], ◌∷◌, length, refl, ap, sym, ◌∙◌, subst, arith, cases_Bool, eqb-true, eq-eqb, and_parts, nat_tests, common_steps, IsTrue, Contains, Some, find, filter, ends_differ, IsListed, all_listed, partners_listed, IsSide, tail_of, head_of, side_name, FaceList, FaceSide, IsFaceList, face_at, all_sides, joins, is_edge, ArePartners, start_under, end_under, is_flipped, Side}
use Rattle.surf_model.proofs.NumberLemmas.{face_side}
use Rattle.surf_model.proofs.TableLemmas.{Contains-filter, face_side_in}

-- the first element that passes, where one alone does
find_only : {A : Type 0} (p : A → Bool) (xs : List A) (x : A) → Contains xs x → p x ≡ true → ((y : A) → Contains xs y → p y ≡ true → y ≡ x)
    → find p xs ≡ Some x
find_only p [] x h passes only = absurd (omega (arith, h.1))
find_only p (y ∷ ys) x (zero, l, is) passes only = grind arith
find_only p (y ∷ ys) x (suc k, l, is) passes only = elim (cases_Bool (p y)) [
  | inl here ↦
      let same : y ≡ x = only y (0, omega arith, refl) here in
      rw here (ap Some same)
  | inr off ↦ rw off (find_only p ys x (k, omega arith, is) passes (λ z has passed. only z (suc has.0, omega (arith, has.1), has.2) passed))
]

-- a side as an entry of the list of all sides
abbrev pub entry_of : FaceList → Side → FaceSide
entry_of mesh side = face_side side.face.0 (face_at mesh side.face.0) side.at

in_list : (mesh : FaceList) (side : Side) → IsSide mesh side → Contains (all_sides mesh) (entry_of mesh side)
in_list mesh side h = face_side_in mesh side.face.0 side.at h.face h.place

-- an entry is that of its name
entry_named : (mesh : FaceList) (s : FaceSide) → IsListed mesh s → entry_of mesh (side_name s) ≡ s
entry_named mesh s h = grind (arith, head_of)

listed : (mesh : FaceList) (s : FaceSide) → Contains (all_sides mesh) s → IsListed mesh s
listed mesh s has = subst (IsListed mesh) has.2 (all_listed mesh has.0 s has.1)

-- two sides with other names, or one
same_or_other : (side other : Side) → (side ≡ other) ⊎ (side ≢ other)
same_or_other side other = grind arith

-- A side and the one on the other side of its edge, under a good labelling.
pub record HasPartner (mesh : FaceList) (labelling : LabellingView) (side : Side) : Type 0 where
  pub partner : Side
  pub partners : ArePartners mesh side partner
  pub meets : SidesMeetRule mesh labelling side partner

entry_joins : (mesh : FaceList) (side : Side) → joins (tail_of mesh side) (head_of mesh side) (entry_of mesh side) ≡ true
entry_joins mesh side = grind (arith, nat_tests)

edge_of_side : (mesh : FaceList) (side : Side) → IsSide mesh side → IsTrue (is_edge mesh (tail_of mesh side) (head_of mesh side))
unfolding is_edge
edge_of_side mesh side h = grind (arith, common_steps, in_list, head_of, entry_joins)

-- of two elements one is the first or the second
one_of_two : {A : Type 0} (xs : List A) (x : A) → length xs ≡ 2 → Contains xs x → (y : A) × ((xs ≡ x ∷ y ∷ []) ⊎ (xs ≡ y ∷ x ∷ []))
one_of_two [] x two h = absurd (omega arith)
one_of_two (a ∷ []) x two h = absurd (omega arith)
one_of_two (a ∷ b ∷ c ∷ xs) x two h = absurd (omega arith)
one_of_two (a ∷ b ∷ []) x two (zero, l, is) = (b, inl (ap (λ z. z ∷ b ∷ []) is))
one_of_two (a ∷ b ∷ []) x two (suc zero, l, is) = (a, inr (ap (λ z. a ∷ z ∷ []) is))
one_of_two (a ∷ b ∷ []) x two (suc (suc k), l, is) = absurd (omega arith)

swapped : (mesh : FaceList) (side other : Side) → ArePartners mesh side other → ArePartners mesh other side
swapped mesh side other h = grind arith

pub partner_of : (mesh : FaceList) (labelling : LabellingView) (side : Side) → IsGood mesh labelling → IsSide mesh side
    → HasPartner mesh labelling side
partner_of mesh labelling side good h =
    let u : ℕ = tail_of mesh side in
    let v : ℕ = head_of mesh side in
    let edge : EdgeMeetsRule mesh labelling u v = good.edges u v (edge_of_side mesh side h) in
    let here : Contains (filter (joins u v) (all_sides mesh)) (entry_of mesh side) =
    Contains-filter (joins u v) (all_sides mesh) (entry_of mesh side) (entry_joins mesh side) (in_list mesh side h) in
    let two = one_of_two (filter (joins u v) (all_sides mesh)) (entry_of mesh side) edge.two_sides here in
    let partner : Side = side_name two.0 in
    let partners : ArePartners mesh side partner = elim two.1 [
      | inl first ↦ partners_listed mesh u v (entry_of mesh side) two.0 first
      | inr second ↦ swapped mesh partner side (partners_listed mesh u v two.0 (entry_of mesh side) second)
    ] in
    record { partner = partner; partners = partners; meets = edge.sides side partner partners (inl (refl, refl)) }

-- no other side runs as a side does
runs_alone : (mesh : FaceList) (labelling : LabellingView) (side other : Side) → IsFaceList mesh → IsGood mesh labelling
    → IsSide mesh side → IsSide mesh other
    → start_under mesh (signs_of labelling) other ≡ start_under mesh (signs_of labelling) side
    → end_under mesh (signs_of labelling) other ≡ end_under mesh (signs_of labelling) side → other ≡ side
runs_alone mesh labelling side other valid good h k starts ends = elim (same_or_other other side) [
  | inl same ↦ same
  | inr differ ↦
      let partners : ArePartners mesh side other = record {
        first = h;
        second = k;
        different = λ e. differ (sym e);
        one_edge = one_edge (is_flipped (signs_of labelling) side.face.0) (is_flipped (signs_of labelling) other.face.0) refl refl;
      } in
      let meets : SidesMeetRule mesh labelling side other =
      (good.edges (tail_of mesh side) (head_of mesh side) (edge_of_side mesh side h)).sides side other partners (inl (refl, refl)) in
      let loop : start_under mesh (signs_of labelling) side ≡ end_under mesh (signs_of labelling) side = meets.opposite.starts ∙ ends in
      absurd (no_loop (is_flipped (signs_of labelling) side.face.0) refl loop)
]
  where
    one_edge : (a b : Bool) → is_flipped (signs_of labelling) side.face.0 ≡ a → is_flipped (signs_of labelling) other.face.0 ≡ b
        → ((tail_of mesh side ≡ tail_of mesh other) × (head_of mesh side ≡ head_of mesh other))
        ⊎ ((tail_of mesh side ≡ head_of mesh other) × (head_of mesh side ≡ tail_of mesh other))
    one_edge true true e f =
        let one : head_of mesh other ≡ head_of mesh side = rw (e, f) at starts in
        let two : tail_of mesh other ≡ tail_of mesh side = rw (e, f) at ends in
        inl (sym two, sym one)
    one_edge true false e f =
        let one : tail_of mesh other ≡ head_of mesh side = rw (e, f) at starts in
        let two : head_of mesh other ≡ tail_of mesh side = rw (e, f) at ends in
        inr (sym two, sym one)
    one_edge false true e f =
        let one : head_of mesh other ≡ tail_of mesh side = rw (e, f) at starts in
        let two : tail_of mesh other ≡ head_of mesh side = rw (e, f) at ends in
        inr (sym one, sym two)
    one_edge false false e f =
        let one : tail_of mesh other ≡ tail_of mesh side = rw (e, f) at starts in
        let two : head_of mesh other ≡ head_of mesh side = rw (e, f) at ends in
        inl (sym one, sym two)

    no_loop : (a : Bool) → is_flipped (signs_of labelling) side.face.0 ≡ a
        → start_under mesh (signs_of labelling) side ≡ end_under mesh (signs_of labelling) side → ⊥
    no_loop true e loop =
        let same : head_of mesh side ≡ tail_of mesh side = rw e at loop in
        ends_differ mesh side valid h (sym same)
    no_loop false e loop =
        let same : tail_of mesh side ≡ head_of mesh side = rw e at loop in
        ends_differ mesh side valid h same

-- the side from its start to its end is found
pub side_found : (mesh : FaceList) (labelling : LabellingView) (side : Side) → IsFaceList mesh → IsGood mesh labelling → IsSide mesh side
    → side_from mesh labelling (start_under mesh (signs_of labelling) side)
    (end_under mesh (signs_of labelling) side) ≡ Some (entry_of mesh side)
unfolding side_from
side_found mesh labelling side valid good h =
    find_only test (all_sides mesh) (entry_of mesh side) (in_list mesh side h) itself
    (λ y has passes.
    let parts = and_parts (eqb (start_under mesh signs (side_name y)) u) (eqb (end_under mesh signs (side_name y)) v) passes in
    let is : IsListed mesh y = listed mesh y has in
    let same : side_name y ≡ side = runs_alone mesh labelling side (side_name y) valid good h is.side (eqb-true _ _ parts.0)
    (eqb-true _ _ parts.1) in
    sym (entry_named mesh y is) ∙ ap (entry_of mesh) same)
  where
    signs : List Bool
    signs = signs_of labelling

    u : ℕ
    u = start_under mesh signs side

    v : ℕ
    v = end_under mesh signs side

    test : FaceSide → Bool
    test s = eqb (start_under mesh signs (side_name s)) u && eqb (end_under mesh signs (side_name s)) v

    itself : test (entry_of mesh side) ≡ true
    itself =
        let one : eqb u u ≡ true = eq-eqb u u refl in
        let two : eqb v v ≡ true = eq-eqb v v refl in
        rw (one, two) refl

-- the spokes of the dart along a side, and of the dart against it
pub record SpokesOfSide (mesh : FaceList) (labelling : LabellingView) (side : Side) : Type 0 where
  pub partner : HasPartner mesh labelling side
  pub along :
      spokes mesh labelling (start_under mesh (signs_of labelling) side) (end_under mesh (signs_of labelling) side)
      ≡ spokes_by_labels (tail_label mesh labelling side) (head_label mesh labelling side) (tail_label mesh labelling partner.partner)
      (head_label mesh labelling partner.partner)
  pub against :
      spokes mesh labelling (end_under mesh (signs_of labelling) side) (start_under mesh (signs_of labelling) side)
      ≡ spokes_by_labels (tail_label mesh labelling partner.partner) (head_label mesh labelling partner.partner)
      (tail_label mesh labelling side)
      (head_label mesh labelling side)

pub spokes_of_side : (mesh : FaceList) (labelling : LabellingView) (side : Side) → IsFaceList mesh → IsGood mesh labelling
    → IsSide mesh side
    → SpokesOfSide mesh labelling side
spokes_of_side mesh labelling side valid good h =
    let p : HasPartner mesh labelling side = partner_of mesh labelling side good h in
    let other : Side = p.partner in
    let one : side_from mesh labelling (start_under mesh signs side) (end_under mesh signs side) ≡ Some (entry_of mesh side) =
    side_found mesh labelling side valid good h in
    let two_raw : side_from mesh labelling (start_under mesh signs other) (end_under mesh signs other) ≡ Some (entry_of mesh other) =
    side_found mesh labelling other valid good p.partners.second in
    let two : side_from mesh labelling (end_under mesh signs side) (start_under mesh signs side) ≡ Some (entry_of mesh other) =
    ap (λ (x : ℕ). side_from mesh labelling x (start_under mesh signs side)) p.meets.opposite.ends
    ∙ ap (side_from mesh labelling (start_under mesh signs other)) p.meets.opposite.starts ∙ two_raw in
    record {
      partner = p;
      along = ap (λ o. spokes_of_sides mesh labelling o (side_from mesh labelling (end_under mesh signs side)
          (start_under mesh signs side))) one
          ∙ ap (spokes_of_sides mesh labelling (Some (entry_of mesh side))) two;
      against = ap (λ o. spokes_of_sides mesh labelling o
          (side_from mesh labelling (start_under mesh signs side) (end_under mesh signs side))) two
          ∙ ap (spokes_of_sides mesh labelling (Some (entry_of mesh other))) one;
    }
  where
    signs : List Bool
    signs = signs_of labelling

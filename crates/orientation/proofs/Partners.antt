-- The two sides of an edge, where no edge has more.
use Rattle.orientation.proofs.Common.{EachEdgeHasAtMostTwoSides, ◌≡◌, ◌≢◌, ◌⊎◌, inl, inr, ℕ, zero, suc, ◌≤◌, true, List, [], ◌∷◌, length, ap, sym, ◌∙◌, arith, nat_tests, Contains, filter, Contains-filter, face_side_in, tail_of, head_of, FaceList, FaceSide, face_at, all_sides, joins, is_edge, ArePartners, Side}
use Rattle.std.proofs.lemmas.List.Folds.{list_any-from_Any}
use Rattle.surf_model.proofs.NumberLemmas.{face_side}

-- a side as an entry of the list of all sides
abbrev pub entry_of : FaceList → Side → FaceSide
entry_of mesh side = face_side side.face.0 (face_at mesh side.face.0) side.at

-- a list of at most two elements that has two different ones
pub two_of : {A : Type 0} (xs : List A) (a b : A) → length xs ≤ 2 → Contains xs a → Contains xs b → a ≢ b
    → (xs ≡ a ∷ b ∷ []) ⊎ (xs ≡ b ∷ a ∷ [])
two_of [] a b few (i, l, is) has_b other = absurd (omega arith)
two_of (x ∷ []) a b few (zero, l, is) (zero, m, js) other = absurd (other (sym is ∙ js))
two_of (x ∷ []) a b few (zero, l, is) (suc j, m, js) other = absurd (omega arith)
two_of (x ∷ []) a b few (suc i, l, is) has_b other = absurd (omega arith)
two_of (x ∷ y ∷ []) a b few (zero, l, is) (zero, m, js) other = absurd (other (sym is ∙ js))
two_of (x ∷ y ∷ []) a b few (zero, l, is) (suc zero, m, js) other = inl (ap (λ z. z ∷ y ∷ []) is ∙ ap (λ z. a ∷ z ∷ []) js)
two_of (x ∷ y ∷ []) a b few (zero, l, is) (suc (suc j), m, js) other = absurd (omega arith)
two_of (x ∷ y ∷ []) a b few (suc zero, l, is) (zero, m, js) other = inr (ap (λ z. z ∷ y ∷ []) js ∙ ap (λ z. b ∷ z ∷ []) is)
two_of (x ∷ y ∷ []) a b few (suc zero, l, is) (suc zero, m, js) other = absurd (other (sym is ∙ js))
two_of (x ∷ y ∷ []) a b few (suc zero, l, is) (suc (suc j), m, js) other = absurd (omega arith)
two_of (x ∷ y ∷ []) a b few (suc (suc i), l, is) has_b other = absurd (omega arith)
two_of (x ∷ y ∷ z ∷ xs) a b few has_a has_b other = absurd (omega arith)

joins_other : (u v : ℕ) (s t : FaceSide) → joins u v s ≡ true
    → ((s.tail ≡ t.tail) × (s.head ≡ t.head)) ⊎ ((s.tail ≡ t.head) × (s.head ≡ t.tail)) → joins u v t ≡ true
joins_other u v s t h e = grind (arith, nat_tests)

pub joined_edge : (mesh : FaceList) (u v : ℕ) (s : FaceSide) → Contains (all_sides mesh) s → joins u v s ≡ true → is_edge mesh u v ≡ true
unfolding is_edge
joined_edge mesh u v s has h = list_any-from_Any (joins u v) (all_sides mesh) (has.0, s, has.1, has.2, h)

-- partners are all the sides of their edge
pub are_all : {mesh : FaceList} (u v : ℕ) {side other : Side} → EachEdgeHasAtMostTwoSides mesh → ArePartners mesh side other
    → joins u v (entry_of mesh side) ≡ true
    → (filter (joins u v) (all_sides mesh) ≡ entry_of mesh side ∷ entry_of mesh other ∷ []) ⊎
    (filter (joins u v) (all_sides mesh) ≡ entry_of mesh other ∷ entry_of mesh side ∷ [])
are_all {mesh} u v {side} {other} few h joined =
    let s : FaceSide = entry_of mesh side in
    let t : FaceSide = entry_of mesh other in
    let has_s : Contains (all_sides mesh) s = face_side_in mesh side.face.0 side.at h.first.face h.first.place in
    let has_t : Contains (all_sides mesh) t = face_side_in mesh other.face.0 other.at h.second.face h.second.place in
    let joined_t : joins u v t ≡ true = joins_other u v s t joined h.one_edge in
    two_of (filter (joins u v) (all_sides mesh)) s t (few u v (joined_edge mesh u v s has_s joined))
    (Contains-filter (joins u v) (all_sides mesh) s joined has_s) (Contains-filter (joins u v) (all_sides mesh) t joined_t has_t)
    (λ same. h.different (ap (λ (x : FaceSide). let name : Side = record { face = record { 0 = x.face }; at = x.at } in name) same))

-- a side has one partner at most
pub one_partner : (mesh : FaceList) (side other third : Side) → EachEdgeHasAtMostTwoSides mesh → ArePartners mesh side other
    → ArePartners mesh side third → third ≡ other
one_partner mesh side other third few h k =
    let joined : joins (tail_of mesh side) (head_of mesh side) (entry_of mesh side) ≡ true = grind (arith, nat_tests) in
    let name : FaceSide → Side = λ x. record { face = record { 0 = x.face }; at = x.at } in
    let one = are_all (tail_of mesh side) (head_of mesh side) few h joined in
    let two = are_all (tail_of mesh side) (head_of mesh side) few k joined in
    elim one [
      | inl a ↦ elim two [
        | inl b ↦ (let e : entry_of mesh third ≡ entry_of mesh other = cc (sym b ∙ a) in ap name e)
        | inr b ↦ (let e : entry_of mesh side ≡ entry_of mesh other = cc (sym b ∙ a) in absurd (h.different (ap name e)))
      ]
      | inr a ↦ elim two [
        | inl b ↦ (let e : entry_of mesh side ≡ entry_of mesh other = cc (sym b ∙ a) in absurd (h.different (ap name e)))
        | inr b ↦ (let e : entry_of mesh third ≡ entry_of mesh other = cc (sym b ∙ a) in ap name e)
      ]
    ]

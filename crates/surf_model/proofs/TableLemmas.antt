-- What the table of a mesh says of its edges and of its vertices.
use Rattle.surf_model.proofs.Common.{◌≡◌, ◌⊎◌, inl, inr, ℕ, zero, suc, ◌+◌, ◌<◌, Bool, true, false, ◌||◌, eqb, List, [], ◌∷◌, length, map, get_or, refl, ap, sym, ◌∙◌, subst, arith, false_from_ne_true, cases_Bool, cond-true, cond-false, or_cases, or_left, or_right, nat_tests, same_from_decides, common_steps, length-map, get_or-map, get_or_default, Contains-append_left, Contains-append_right, Any-from_list_any, list_any-from_Any, list_any_at, list_any-append, get_or-map-range_with_len, length-range_with_len, list_any, enumerate_from, range_with_len, All, Any, Contains, filter, flat_map, Edge, IsTableOf, IsEdgeOf, HasEnds, IsEndOf, side_name, FaceList, FaceSide, face_at, all_sides, sides_of_face, next_corner, joins, is_edge, is_used}
use Rattle.surf_model.proofs.NumberLemmas.{face_side, length-sides_of_face, get_or-sides_of_face}

-- a side has the vertex at one of its ends
abbrev pub names : ℕ → FaceSide → Bool
names v side = eqb side.tail v || eqb side.head v

list_any_from_filter : {A : Type 0} (p : A → Bool) (xs : List A) → 0 < length (filter p xs) → list_any p xs ≡ true
list_any_from_filter p [] h = absurd (omega arith)
list_any_from_filter p (x ∷ xs) h =
    elim (cases_Bool (p x)) [
      | inl passes ↦ or_left (p x) (list_any p xs) passes
      | inr fails ↦ or_right (p x) (list_any p xs) (list_any_from_filter p xs (subst (λ ys. 0 < length ys) (cond-false (p x) _ _ fails) h))
    ]

pub list_any_agree : {A : Type 0} (p q : A → Bool) → ((x : A) → p x ≡ q x) → (xs : List A) → list_any p xs ≡ list_any q xs
list_any_agree p q h [] = refl
list_any_agree p q h (x ∷ xs) = rw (h x, list_any_agree p q h xs) refl

pub joins_swap : (u v : ℕ) (s : FaceSide) → joins u v s ≡ joins v u s
joins_swap u v s = grind (arith, nat_tests)

pub both_join : (u v a b : ℕ) (s : FaceSide) → joins u v s ≡ true → joins a b s ≡ true → ((a ≡ u) × (b ≡ v)) ⊎ ((a ≡ v) × (b ≡ u))
both_join u v a b s h k = grind (arith, nat_tests)

pub joins_names : (a b v : ℕ) (s : FaceSide) → joins a b s ≡ true → (a ≡ v) ⊎ (b ≡ v) → names v s ≡ true
joins_names a b v s h e = grind (arith, nat_tests)

names_joins : (a b v : ℕ) (s : FaceSide) → joins a b s ≡ true → names v s ≡ true → (a ≡ v) ⊎ (b ≡ v)
names_joins a b v s h e = grind (arith, nat_tests)

-- some side of the mesh joins the ends of an edge of its table
side_of_edge : (mesh : FaceList) (e : Edge) → IsEdgeOf mesh e → list_any (joins e.low e.high) (all_sides mesh) ≡ true
side_of_edge mesh e h = grind (arith, common_steps, list_any_from_filter)

pub edge_from_table : (mesh : FaceList) (table : List Edge) (u v : ℕ) → IsTableOf mesh table → Any (HasEnds u v) table
    → is_edge mesh u v ≡ true
unfolding is_edge
edge_from_table mesh table u v h any =
    let e : Edge = any.1 in
    let is : IsEdgeOf mesh e = subst (IsEdgeOf mesh) any.3 (h.edges any.0 e any.2) in
    let some : list_any (joins e.low e.high) (all_sides mesh) ≡ true = side_of_edge mesh e is in
    elim any.4 [
      | inl x ↦ subst (λ a. list_any (joins a v) (all_sides mesh) ≡ true) x.0
          (subst (λ b. list_any (joins e.low b) (all_sides mesh) ≡ true) x.1 some)
      | inr x ↦
          list_any_agree (joins u v) (joins v u) (joins_swap u v) (all_sides mesh)
          ∙ subst (λ a. list_any (joins a u) (all_sides mesh) ≡ true) x.0
          (subst (λ b. list_any (joins e.low b) (all_sides mesh) ≡ true) x.1 some)
    ]

pub no_edge_from_table : (mesh : FaceList) (table : List Edge) (u v : ℕ) → IsTableOf mesh table → All (λ e. HasEnds u v e → ⊥) table
    → is_edge mesh u v ≡ false
unfolding is_edge
no_edge_from_table mesh table u v h none =
    false_from_ne_true (is_edge mesh u v)
    (λ is.
    let any = Any-from_list_any (joins u v) (all_sides mesh) is in
    let found = h.complete any.0 any.1 any.2 in
    let e : Edge = found.1 in
    let here : joins e.low e.high any.1 ≡ true = subst (λ (s : FaceSide). joins e.low e.high s ≡ true) any.3 found.4 in
    none found.0 e found.2 (subst (HasEnds u v) (sym found.3) (both_join u v e.low e.high any.1 any.4 here)))

pub next_within : (m t : ℕ) → t < m → next_corner true m t < m
next_within m t h = grind (arith, nat_tests)

-- the sides of a face name the vertices of the face
names_face : (v f : ℕ) (face : List ℕ) → list_any (names v) (sides_of_face f face) ≡ list_any (λ corner. eqb corner v) face
names_face v f face =
    let m : ℕ = length face in
    let side : ℕ → FaceSide = λ t. record { face = f; at = t; tail = get_or face t 0; head = get_or face (next_corner true m t) 0 } in
    let long : length (sides_of_face f face) ≡ m = length-map (range_with_len 0 m) side ∙ length-range_with_len 0 m in
    same_from_decides (list_any (names v) (sides_of_face f face)) (list_any (λ corner. eqb corner v) face) (
      λ h.
          let any = Any-from_list_any (names v) (sides_of_face f face) h in
          let t : ℕ = any.0 in
          let few : t < m = omega (arith, any.2, long) in
          let is : any.1 ≡ side t = sym any.3 ∙ get_or-map-range_with_len side 0 m t t any.1 few (omega arith) in
          let named : names v (side t) ≡ true = subst (λ s. names v s ≡ true) is any.4 in
          elim (or_cases (eqb (get_or face t 0) v) (eqb (get_or face (next_corner true m t) 0) v) named) [
            | inl x ↦ list_any_at (λ corner. eqb corner v) face t 0 few x
            | inr x ↦ list_any_at (λ corner. eqb corner v) face (next_corner true m t) 0 (next_within m t few) x
          ],
      λ h.
          let any = Any-from_list_any (λ corner. eqb corner v) face h in
          let t : ℕ = any.0 in
          let read : get_or face t 0 ≡ any.1 = get_or_default face t 0 any.1 any.2 ∙ any.3 in
          let here : names v (side t) ≡ true = grind (arith, or_left) in
          list_any_at (names v) (sides_of_face f face) t (side t) (omega (arith, any.2, long))
          (subst (λ s. names v s ≡ true) (sym (get_or-map-range_with_len side 0 m t t (side t) any.2 (omega arith))) here),
    )
    (λ h. h, λ h. h)

names_faces : (v n : ℕ) (faces : List (List ℕ))
    → list_any (names v) (flat_map (λ (p : ℕ × List ℕ). sides_of_face p.0 p.1) (enumerate_from n faces)) ≡ list_any
    (λ face. list_any (λ corner. eqb corner v) face) faces
names_faces v n [] = refl
names_faces v n (face ∷ faces) =
    list_any-append (names v) (sides_of_face n face) (flat_map (λ (p : ℕ × List ℕ). sides_of_face p.0 p.1) (enumerate_from (n + 1) faces))
    ∙ (rw (names_face v n face, names_faces v (n + 1) faces) refl)

pub names_mesh : (mesh : FaceList) (v : ℕ) → list_any (names v) (all_sides mesh) ≡ is_used mesh v
unfolding is_used all_sides
names_mesh mesh v = names_faces v 0 mesh.faces

pub used_from_table : (mesh : FaceList) (table : List Edge) (v : ℕ) → IsTableOf mesh table → Any (IsEndOf v) table → is_used mesh v ≡ true
used_from_table mesh table v h any =
    let e : Edge = any.1 in
    let is : IsEdgeOf mesh e = subst (IsEdgeOf mesh) any.3 (h.edges any.0 e any.2) in
    let some = Any-from_list_any (joins e.low e.high) (all_sides mesh) (side_of_edge mesh e is) in
    sym (names_mesh mesh v) ∙ list_any-from_Any (names v) (all_sides mesh)
    (some.0, some.1, some.2, some.3, joins_names e.low e.high v some.1 some.4 any.4)

pub end_from_used : (mesh : FaceList) (table : List Edge) (v : ℕ) → IsTableOf mesh table → is_used mesh v ≡ true → Any (IsEndOf v) table
end_from_used mesh table v h is =
    let any = Any-from_list_any (names v) (all_sides mesh) (names_mesh mesh v ∙ is) in
    let found = h.complete any.0 any.1 any.2 in
    let e : Edge = found.1 in
    let here : joins e.low e.high any.1 ≡ true = subst (λ (s : FaceSide). joins e.low e.high s ≡ true) any.3 found.4 in
    (found.0, e, found.2, found.3, names_joins e.low e.high v any.1 here any.4)

pub Contains-filter : {A : Type 0} (p : A → Bool) (xs : List A) (x : A) → p x ≡ true → Contains xs x → Contains (filter p xs) x
Contains-filter p [] x passes h = absurd (omega (arith, h.1))
Contains-filter p (y ∷ ys) x passes (zero, l, is) = grind arith
Contains-filter p (y ∷ ys) x passes (suc k, l, is) =
    let rest : Contains (filter p ys) x = Contains-filter p ys x passes (k, omega arith, is) in
    elim (cases_Bool (p y)) [
      | inl keeps ↦ subst (λ zs. Contains zs x) (sym (cond-true (p y) (y ∷ filter p ys) (filter p ys) keeps))
          (suc rest.0, omega (arith, rest.1), rest.2)
      | inr drops ↦ subst (λ zs. Contains zs x) (sym (cond-false (p y) (y ∷ filter p ys) (filter p ys) drops)) rest
    ]

face_side_from : (n : ℕ) (faces : List (List ℕ)) (f t : ℕ) → f < length faces → t < length (get_or faces f [])
    → Contains (flat_map (λ (p : ℕ × List ℕ). sides_of_face p.0 p.1) (enumerate_from n faces)) (face_side (n + f) (get_or faces f []) t)
face_side_from n [] f t l b = absurd (omega arith)
face_side_from n (face ∷ faces) zero t l b =
    let at : n + 0 ≡ n = omega arith in
    rw at (Contains-append_left (sides_of_face n face)
    (flat_map (λ (p : ℕ × List ℕ). sides_of_face p.0 p.1) (enumerate_from (n + 1) faces)) (face_side n face t)
    (t, omega (arith, b, length-sides_of_face n face), get_or-sides_of_face n face t (face_side n face t) b))
face_side_from n (face ∷ faces) (suc f) t l b =
    let at : n + suc f ≡ n + 1 + f = omega arith in
    rw at (Contains-append_right (sides_of_face n face)
    (flat_map (λ (p : ℕ × List ℕ). sides_of_face p.0 p.1) (enumerate_from (n + 1) faces)) (face_side (n + 1 + f) (get_or faces f []) t)
    (face_side_from (n + 1) faces f t (omega arith) b))

pub face_side_in : (mesh : FaceList) (f t : ℕ) → f < length mesh.faces → t < length (face_at mesh f)
    → Contains (all_sides mesh) (face_side f (face_at mesh f) t)
unfolding all_sides
face_side_in mesh f t l b =
    let at : 0 + f ≡ f = omega arith in
    subst (λ k. Contains (flat_map (λ (p : ℕ × List ℕ). sides_of_face p.0 p.1) (enumerate_from 0 mesh.faces))
    (face_side k (get_or mesh.faces f []) t)) at (face_side_from 0 mesh.faces f t l b)

-- each side of a face of the mesh is a side of its table
pub has_side : (mesh : FaceList) (table : List Edge) (f t : ℕ) → IsTableOf mesh table → f < length mesh.faces → t < length (face_at mesh f)
    → Any (λ (edge : Edge). Contains edge.sides (record { face = record { 0 = f }; at = t })) table
has_side mesh table f t h in_list in_face =
    let has : Contains (all_sides mesh) (face_side f (face_at mesh f) t) = face_side_in mesh f t in_list in_face in
    let found = h.complete has.0 (face_side f (face_at mesh f) t) has.1 in
    let e : Edge = found.1 in
    let joined : joins e.low e.high (face_side f (face_at mesh f) t) ≡ true =
    subst (λ (s : FaceSide). joins e.low e.high s ≡ true) has.2 found.4 in
    let kept : Contains (filter (joins e.low e.high) (all_sides mesh)) (face_side f (face_at mesh f) t) =
    Contains-filter (joins e.low e.high) (all_sides mesh) (face_side f (face_at mesh f) t) joined has in
    let named : Contains (map side_name (filter (joins e.low e.high) (all_sides mesh))) (side_name (face_side f (face_at mesh f) t)) = (
      kept.0,
      omega (arith, kept.1, length-map (filter (joins e.low e.high) (all_sides mesh)) side_name),
      get_or-map side_name (filter (joins e.low e.high) (all_sides mesh)) kept.0 (face_side f (face_at mesh f) t)
          (side_name (face_side f (face_at mesh f) t)) kept.1
          ∙ ap side_name kept.2,
    ) in grind arith

-- A mesh has one table, and the sides in it are the sides of the mesh.
use Rattle.surf_model.proofs.Common.{◌≡◌, ◌⊎◌, inl, inr, ℕ, zero, suc, ◌+◌, ◌-◌, ◌<◌, ◌≤◌, ◌↔◌, Bool, true, List, [], ◌∷◌, length, map, get_or, refl, ap, sym, ◌∙◌, subst, arith, nat_tests, length-map, All-nil, All-append, All-weaker, All-map, All-filter, All-contains, All-contains_itself, Contains-get_or, filter_passes, enumerate_from, All, AllPairs, Any, Contains, filter, flat_map, IsSide, Edge, IsTableOf, IsEdgeOf, IsPairBefore, side_name, FaceList, FaceSide, all_sides, sides_of_face, joins, Side}
use Rattle.surf_model.proofs.NumberLemmas.{length-sides_of_face, get_or-sides_of_face}
use Rattle.surf_model.proofs.TableLemmas.{has_side}

-- an edge comes before another
abbrev IsBefore : Edge → Edge → Type 0
IsBefore e f = IsPairBefore e.low e.high f.low f.high

not_both_before : (a b c d : ℕ) → IsPairBefore a b c d → IsPairBefore c d a b → ⊥
not_both_before a b c d h k = grind arith

not_before_itself : (a b : ℕ) → IsPairBefore a b a b → ⊥
not_before_itself a b h = grind arith

tail_rises : (e : Edge) (es : List Edge) → AllPairs IsBefore (e ∷ es) → AllPairs IsBefore es
tail_rises e es h i j d b l = h (suc i) (suc j) d (omega arith) (omega arith)

head_first : (e f : Edge) (es : List Edge) → AllPairs IsBefore (e ∷ es) → Contains es f → IsBefore e f
head_first e f es h has =
    subst (IsBefore e) has.2 (h 0 (suc has.0) f (omega arith) (omega (arith, has.1)))

-- an element of a list is its first one or one of the others
first_or_later : (e f : Edge) (es : List Edge) → Contains (e ∷ es) f → (e ≡ f) ⊎ Contains es f
first_or_later e f es (zero, l, is) = inl is
first_or_later e f es (suc k, l, is) = inr (k, omega arith, is)

-- two rising lists with the same edges are one
same_list : (es fs : List Edge) → AllPairs IsBefore es → AllPairs IsBefore fs → ((e : Edge) → Contains es e → Contains fs e)
    → ((e : Edge) → Contains fs e → Contains es e) → es ≡ fs
same_list [] [] h k to from = refl
same_list [] (f ∷ fs) h k to from = let none = from f (0, omega arith, refl) in absurd (omega (arith, none.1))
same_list (e ∷ es) [] h k to from = let none = to e (0, omega arith, refl) in absurd (omega (arith, none.1))
same_list (e ∷ es) (f ∷ fs) h k to from =
    let first : e ≡ f = elim (first_or_later f e fs (to e (0, omega arith, refl))) [
      | inl same ↦ sym same
      | inr later ↦ elim (first_or_later e f es (from f (0, omega arith, refl))) [
        | inl same ↦ same
        | inr other ↦ absurd (not_both_before e.low e.high f.low f.high (head_first e f es h other) (head_first f e fs k later))
      ]
    ] in
    let rest : es ≡ fs =
    same_list es fs (tail_rises e es h) (tail_rises f fs k)
    (λ x has. elim (first_or_later f x fs (to x (suc has.0, omega (arith, has.1), has.2))) [
      | inl same ↦ absurd (not_before_itself x.low x.high (subst (λ (y : Edge). IsBefore y x) (first ∙ same) (head_first e x es h has)))
      | inr later ↦ later
    ])
    (λ x has. elim (first_or_later e x es (from x (suc has.0, omega (arith, has.1), has.2))) [
      | inl same ↦ absurd (not_before_itself x.low x.high (subst (λ (y : Edge). IsBefore y x) (sym first ∙ same) (head_first f x fs k has)))
      | inr later ↦ later
    ]) in
    ap (λ (x : Edge). x ∷ es) first ∙ ap (λ (xs : List Edge). f ∷ xs) rest

-- edges with the same ends are one
same_edge : (mesh : FaceList) (e f : Edge) → IsEdgeOf mesh e → IsEdgeOf mesh f → e.low ≡ f.low → e.high ≡ f.high → e ≡ f
same_edge mesh e f h k low high = grind arith

same_ends : (a b c d : ℕ) (s : FaceSide) → joins a b s ≡ true → joins c d s ≡ true → a < b → c < d → (a ≡ c) × (b ≡ d)
same_ends a b c d s h k up more = grind (arith, nat_tests)

-- what passes a filter is in the list
passed : {A : Type 0} (p : A → Bool) (xs : List A) (x : A) → Contains (filter p xs) x → Contains xs x × (p x ≡ true)
passed p xs x has = (
  All-contains (Contains xs) (filter p xs) x (All-filter p (Contains xs) xs (All-contains_itself xs)) has,
  All-contains (λ y. p y ≡ true) (filter p xs) x (filter_passes p xs) has,
)

in_other_table : (mesh : FaceList) (table other : List Edge) (e : Edge) → IsTableOf mesh table → IsTableOf mesh other → Contains table e
    → Contains other e
in_other_table mesh table other e h k has =
    let is : IsEdgeOf mesh e = All-contains (IsEdgeOf mesh) table e h.edges has in
    let here : List FaceSide = filter (joins e.low e.high) (all_sides mesh) in
    let none : FaceSide = record { face = 0; at = 0; tail = 0; head = 0 } in
    let s : FaceSide = get_or here 0 none in
    let some : Contains here s = Contains-get_or here 0 none
    (omega (arith, is.some_side, ap (λ (xs : List Side). length xs) is.sides, length-map here side_name)) in
    let both = passed (joins e.low e.high) (all_sides mesh) s some in
    let found = All-contains (λ (side : FaceSide). Any (λ (f : Edge). joins f.low f.high side ≡ true) other) (all_sides mesh) s
    k.complete both.0 in
    let f : Edge = found.1 in
    let there : Contains other f = (found.0, found.2, found.3) in
    let is_f : IsEdgeOf mesh f = All-contains (IsEdgeOf mesh) other f k.edges there in
    let ends : (e.low ≡ f.low) × (e.high ≡ f.high) = same_ends e.low e.high f.low f.high s both.1 found.4 is.ordered is_f.ordered in
    subst (Contains other) (sym (same_edge mesh e f is is_f ends.0 ends.1)) there

pub one_table : (mesh : FaceList) (table other : List Edge) → IsTableOf mesh table → IsTableOf mesh other → table ≡ other
one_table mesh table other h k =
    same_list table other h.rising k.rising (λ e has. in_other_table mesh table other e h k has)
    (λ e has. in_other_table mesh other table e k h has)

-- a side of the faces from number n on
record IsFrom (n : ℕ) (faces : List (List ℕ)) (s : FaceSide) : Type 0 where
  from : n ≤ s.face
  face : s.face - n < length faces
  place : s.at < length (get_or faces (s.face - n) [])

sides_from : (n : ℕ) (faces : List (List ℕ)) → All (IsFrom n faces)
    (flat_map (λ (p : ℕ × List ℕ). sides_of_face p.0 p.1) (enumerate_from n faces))
sides_from n [] = All-nil (IsFrom n [])
sides_from n (face ∷ faces) =
    All-append (IsFrom n (face ∷ faces)) (sides_of_face n face)
    (flat_map (λ (p : ℕ × List ℕ). sides_of_face p.0 p.1) (enumerate_from (n + 1) faces))
    (λ t d l.
    let few : t < length face = omega (arith, l, length-sides_of_face n face) in
    let zero_is : n - n ≡ 0 = omega arith in
    subst (IsFrom n (face ∷ faces)) (sym (get_or-sides_of_face n face t d few))
    (record { from = omega arith; face = omega arith; place = subst (λ k. t < length (get_or (face ∷ faces) k [])) (sym zero_is) few }))
    (All-weaker (IsFrom (n + 1) faces) (IsFrom n (face ∷ faces))
    (λ s h.
    let next : s.face - n ≡ suc (s.face - (n + 1)) = omega (arith, h.from) in
    record {
      from = omega (arith, h.from);
      face = omega (arith, h.from, h.face);
      place = subst (λ k. s.at < length (get_or (face ∷ faces) k [])) (sym next) h.place;
    })
    (flat_map (λ (p : ℕ × List ℕ). sides_of_face p.0 p.1) (enumerate_from (n + 1) faces)) (sides_from (n + 1) faces))

-- the sides of the list are sides of the mesh
pub all_are_sides : (mesh : FaceList) → All (λ (s : FaceSide). IsSide mesh (side_name s)) (all_sides mesh)
unfolding all_sides
all_are_sides mesh = grind (arith, sides_from)

pub side_from_table : (mesh : FaceList) (table : List Edge) (side : Side) → IsTableOf mesh table
    → Any (λ (edge : Edge). Contains edge.sides side) table → IsSide mesh side
side_from_table mesh table side h any =
    let e : Edge = any.1 in
    let is : IsEdgeOf mesh e = All-contains (IsEdgeOf mesh) table e h.edges (any.0, any.2, any.3) in
    All-contains (IsSide mesh) (map side_name (filter (joins e.low e.high) (all_sides mesh))) side
    (All-map (IsSide mesh) side_name (filter (joins e.low e.high) (all_sides mesh))
    (All-filter (joins e.low e.high) (λ (s : FaceSide). IsSide mesh (side_name s)) (all_sides mesh) (all_are_sides mesh)))
    (subst (λ (ss : List Side). Contains ss side) is.sides any.4)

pub sides_in_table : (mesh : FaceList) (table : List Edge) (side : Side) → IsTableOf mesh table → IsSide mesh side
    ↔ Any (λ (edge : Edge). Contains edge.sides side) table
sides_in_table mesh table side h =
    (λ is. has_side mesh table side.face.0 side.at h is.face is.place, λ any. side_from_table mesh table side h any)

-- How many sides edges have, by the table of the mesh.
use Rattle.connectivity.proofs.Common.{NoEdgeHasThreeSides, ◌≡◌, inl, inr, ℕ, ◌<◌, ◌≤◌, Bool, true, false, ◌||◌, List, [], ◌∷◌, length, refl, ap, sym, ◌∙◌, subst, arith, cases_Bool, list_any, filter, cond, IsEdgeBetween, edge_between, sides_of_edge, sides_between_swap, place_before, same_pair, Edge, IsTableOf, edge_in, IsPairBefore, FaceList, all_sides, joins, is_edge, sides_between, EachEdgeHasTwoSides}

-- where no side passes, none is kept
kept_first : {X : Type 0} (passes any : Bool) (x : X) (kept : List X) → (passes || any) ≡ false → (any ≡ false → length kept ≡ 0)
    → length (cond passes (x ∷ kept) kept) ≡ 0
kept_first true any x kept e h = cc
kept_first false any x kept e h = h e

none_kept : {X : Type 0} (p : X → Bool) (xs : List X) → list_any p xs ≡ false → length (filter p xs) ≡ 0
none_kept p [] e = refl
none_kept p (x ∷ xs) e = kept_first (p x) (list_any p xs) x (filter p xs) e (none_kept p xs)

pub sides_by_table : (mesh : FaceList) (table : List Edge) (u v : ℕ) (h : IsTableOf mesh table) (is : is_edge mesh u v ≡ true)
    → sides_between mesh u v ≡ length (edge_in table (edge_between mesh table u v h is).edge).sides
sides_by_table mesh table u v h is =
    let found : IsEdgeBetween table u v = edge_between mesh table u v h is in
    let edge : Edge = edge_in table found.edge in
    let size : length edge.sides ≡ sides_between mesh edge.low edge.high = sides_of_edge mesh edge (h.edges found.edge _ found.in_table) in
    elim found.ends [
      | inl e ↦ ap (λ a. sides_between mesh a v) (sym e.0) ∙ ap (sides_between mesh edge.low) (sym e.1) ∙ sym size
      | inr e ↦ sides_between_swap mesh u v ∙ ap (λ a. sides_between mesh a u) (sym e.0) ∙ ap (sides_between mesh edge.low) (sym e.1)
          ∙ sym size
    ]

pub no_edge_no_side : (mesh : FaceList) (u v : ℕ) → is_edge mesh u v ≡ false → sides_between mesh u v ≡ 0
unfolding is_edge
no_edge_no_side mesh u v e = none_kept (joins u v) (all_sides mesh) e

-- what holds of 0 and of the number of sides of each edge of the table holds of the sides between any two vertices
pub between_by_table : (P : ℕ → Type 0) (mesh : FaceList) (table : List Edge) → IsTableOf mesh table → P 0
    → ((k : ℕ) → k < length table → P (length (edge_in table k).sides)) → (u v : ℕ) → P (sides_between mesh u v)
between_by_table P mesh table h none each u v =
    elim (cases_Bool (is_edge mesh u v)) [
      | inl is ↦
          (let found : IsEdgeBetween table u v = edge_between mesh table u v h is in
          subst P (sym (sides_by_table mesh table u v h is)) (each found.edge found.in_table))
      | inr not ↦ subst P (sym (no_edge_no_side mesh u v not)) none
    ]

-- what holds of the number of sides of each edge of the table before one holds of the sides of each edge whose ends come before its ends
pub before_by_table : (P : ℕ → Type 0) (mesh : FaceList) (table : List Edge) (k : ℕ) → IsTableOf mesh table → k < length table
    → ((j : ℕ) → j < k → P (length (edge_in table j).sides)) → (a b : ℕ) → a < b → is_edge mesh a b ≡ true
    → IsPairBefore a b (edge_in table k).low (edge_in table k).high → P (sides_between mesh a b)
before_by_table P mesh table k h l each a b up is before =
    let edge : Edge = edge_in table k in
    let found : IsEdgeBetween table a b = edge_between mesh table a b h is in
    let other : Edge = edge_in table found.edge in
    let same = same_pair a b other.low other.high up (h.edges found.edge _ found.in_table).ordered found.ends in
    let there : IsPairBefore other.low other.high edge.low edge.high =
    subst (λ x. IsPairBefore x other.high edge.low edge.high) (sym same.0)
    (subst (λ x. IsPairBefore a x edge.low edge.high) (sym same.1) before) in
    subst P (sym (sides_by_table mesh table a b h is)) (each found.edge (place_before mesh table found.edge k h found.in_table l there))

pub few_from_table : (mesh : FaceList) (table : List Edge) → IsTableOf mesh table
    → ((k : ℕ) → k < length table → length (edge_in table k).sides ≤ 2) → NoEdgeHasThreeSides mesh
few_from_table mesh table h few = between_by_table (λ n. n ≤ 2) mesh table h (omega arith) few

-- edges of two sides are no edges of three
pub few_of_two : (mesh : FaceList) → EachEdgeHasTwoSides mesh → NoEdgeHasThreeSides mesh
few_of_two mesh two u v =
    elim (cases_Bool (is_edge mesh u v)) [
      | inl is ↦ omega (arith, two u v is)
      | inr not ↦ omega (arith, no_edge_no_side mesh u v not)
    ]

-- Sides by their edges: each side is of one edge of the table, so sums over the edges of how many sides they have count the sides.
use Rattle.closed_doubles.proofs.Common.{NoEdgeHasThreeSides, rims, is_rim, ◌≡◌, ◌≢◌, inl, inr, ℕ, zero, suc, ◌+◌, ◌<◌, ◌≤◌, true, List, [], ◌∷◌, length, get_or, refl, ap₂, sym, ◌∙◌, subst, arith, cases_Bool, nat_tests, get_or_default, All-filter, All, length-all_sides, table_edge, table_pair, Edge, IsTableOf, IsPairBefore, edge_in, FaceList, FaceSide, all_sides, total_sides, joins, sides_between, EachEdgeHasTwoSides}
use Rattle.closed_doubles.proofs.SideSums.{side_sum}
use Rattle.closed_doubles.proofs.DoubleEdges.{on_edge, count_is, rim_part, rims_on}
use Rattle.closed_doubles.proofs.SidePlaces.{some_side}

-- ---- sums over edges

abbrev pub edge_sum : (Edge → ℕ) → List Edge → ℕ
edge_sum f [] = 0
edge_sum f (e ∷ edges) = f e + edge_sum f edges

edge_sum-add : (f g : Edge → ℕ) (edges : List Edge) → edge_sum (λ e. f e + g e) edges ≡ edge_sum f edges + edge_sum g edges
edge_sum-add f g [] = refl
edge_sum-add f g (e ∷ edges) = omega (arith, edge_sum-add f g edges)

edge_sum-none : (edges : List Edge) → edge_sum (λ e. 0) edges ≡ 0
edge_sum-none [] = refl
edge_sum-none (e ∷ edges) = omega (arith, edge_sum-none edges)

two_each : (edges : List Edge) → edge_sum (λ e. 2) edges ≡ length edges + length edges
two_each [] = refl
two_each (e ∷ edges) = omega (arith, two_each edges)

edge_sum-alike : (f g : Edge → ℕ) (edges : List Edge) (d : Edge)
    → ((k : ℕ) → k < length edges → f (get_or edges k d) ≡ g (get_or edges k d)) → edge_sum f edges ≡ edge_sum g edges
edge_sum-alike f g [] d same = refl
edge_sum-alike f g (e ∷ edges) d same =
    ap₂ (λ a b. a + b) (same 0 (omega arith)) (edge_sum-alike f g edges d (λ k l. same (suc k) (omega (arith, l))))

-- one of the edges, and no other
edge_sum-one : (f : Edge → ℕ) (edges : List Edge) (d : Edge) (k : ℕ) → k < length edges → f (get_or edges k d) ≡ 1
    → ((j : ℕ) → j < length edges → j ≢ k → f (get_or edges j d) ≡ 0) → edge_sum f edges ≡ 1
edge_sum-one f [] d k l one none = absurd (omega (arith, l))
edge_sum-one f (e ∷ edges) d zero l one none =
    let rest : edge_sum f edges ≡ 0 =
    edge_sum-alike f (λ x. 0) edges d (λ j b. none (suc j) (omega (arith, b)) (λ e. omega (arith, e))) ∙ edge_sum-none edges in
    omega (arith, one, rest)
edge_sum-one f (e ∷ edges) d (suc k) l one none =
    let first : f e ≡ 0 = none 0 (omega arith) (λ e. omega (arith, e)) in
    omega (
      arith,
      first,
      edge_sum-one f edges d k (omega (arith, l)) one (λ j b apart. none (suc j) (omega (arith, b)) (λ e. apart (omega (arith, e)))),
    )

-- ---- each side is of one edge

abbrev no_edge : Edge
no_edge = record { low = 0; high = 0; sides = [] }

same_ends : (a b c d : ℕ) (s : FaceSide) → joins a b s ≡ true → joins c d s ≡ true → a < b → c < d → (a ≡ c) × (b ≡ d)
same_ends a b c d s h k up more = (grind (arith, nat_tests), grind (arith, nat_tests))

not_itself : (a b c d : ℕ) → IsPairBefore a b c d → a ≡ c → b ≡ d → ⊥
not_itself a b c d h low high = grind arith

module _ (mesh : FaceList) (table : List Edge) (h : IsTableOf mesh table) where
  joined_once : (s : FaceSide) (j k : ℕ) → j < length table → k < length table → joins (edge_in table j).low (edge_in table j).high s ≡ true
      → joins (edge_in table k).low (edge_in table k).high s ≡ true → j ≡ k
  joined_once s j k lj lk p q = grind (arith, same_ends, table_edge, not_itself)

  one_edge : (s : FaceSide) (k : ℕ) → k < length table → joins (edge_in table k).low (edge_in table k).high s ≡ true
      → edge_sum (λ e. on_edge e.low e.high s.tail s.head) table ≡ 1
  one_edge s k l here =
      edge_sum-one (λ e. on_edge e.low e.high s.tail s.head) table no_edge k l (rw here refl) (λ j b apart.
      elim (cases_Bool (joins (edge_in table j).low (edge_in table j).high s)) [
        | inl on ↦ absurd (apart (joined_once s j k b l on here))
        | inr off ↦ rw off refl
      ])

  of_one_edge : (k : ℕ) (d : FaceSide) → k < length (all_sides mesh)
      → edge_sum (λ e. on_edge e.low e.high (get_or (all_sides mesh) k d).tail (get_or (all_sides mesh) k d).head) table ≡ 1
  of_one_edge k d l =
      let s : FaceSide = get_or (all_sides mesh) k d in
      let found = h.complete k d l in
      let at : edge_in table found.0 ≡ found.1 = get_or_default table found.0 _ found.1 found.2 ∙ found.3 in
      one_edge s found.0 found.2 (subst (λ (e : Edge). joins e.low e.high s ≡ true) (sym at) found.4)

  -- so sides are counted by their edges
  sides_by_edges : (sides : List FaceSide) → All (λ (s : FaceSide). edge_sum (λ e. on_edge e.low e.high s.tail s.head) table ≡ 1) sides
      → edge_sum (λ e. side_sum (on_edge e.low e.high) sides) table ≡ length sides
  sides_by_edges [] each = edge_sum-none table
  sides_by_edges (s ∷ sides) each =
      omega (
        arith,
        edge_sum-add (λ e. on_edge e.low e.high s.tail s.head) (λ e. side_sum (on_edge e.low e.high) sides) table,
        each 0 s (omega arith),
        sides_by_edges sides (λ k d l. each (suc k) d (omega (arith, l))),
      )

  total_by_edges : edge_sum (λ e. sides_between mesh e.low e.high) table ≡ total_sides mesh
  total_by_edges =
      edge_sum-alike (λ e. sides_between mesh e.low e.high) (λ e. side_sum (on_edge e.low e.high) (all_sides mesh)) table no_edge
      (λ k l. count_is (edge_in table k).low (edge_in table k).high (all_sides mesh))
      ∙ sides_by_edges (all_sides mesh) of_one_edge
      ∙ length-all_sides mesh

  rims_counted : edge_sum (λ e. rim_part (sides_between mesh e.low e.high)) table ≡ length (rims mesh)
  rims_counted =
      edge_sum-alike (λ e. rim_part (sides_between mesh e.low e.high)) (λ e. side_sum (on_edge e.low e.high) (rims mesh)) table no_edge
      (λ k l. sym (rims_on mesh (edge_in table k).low (edge_in table k).high))
      ∙ sides_by_edges (rims mesh)
      (All-filter (is_rim mesh) (λ (s : FaceSide). edge_sum (λ e. on_edge e.low e.high s.tail s.head) table ≡ 1) (all_sides mesh)
      of_one_edge)

  -- ---- how many edges there are

  two_with_rim : (n : ℕ) → n ≤ 2 → 0 < n → 2 ≡ n + rim_part n
  two_with_rim n few some = grind (arith, nat_tests)

  -- where each edge has two sides
  pub edges_twice : EachEdgeHasTwoSides mesh → length table + length table ≡ total_sides mesh
  edges_twice two =
      sym (two_each table)
      ∙ edge_sum-alike (λ e. 2) (λ e. sides_between mesh e.low e.high) table no_edge
      (λ k l. sym (two (edge_in table k).low (edge_in table k).high (table_pair mesh table k h l)))
      ∙ total_by_edges

  -- where none has three
  pub edges_with_rims : NoEdgeHasThreeSides mesh → length table + length table ≡ total_sides mesh + length (rims mesh)
  edges_with_rims few =
      let sides : Edge → ℕ = λ e. sides_between mesh e.low e.high in
      sym (two_each table)
      ∙ edge_sum-alike (λ e. 2) (λ e. sides e + rim_part (sides e)) table no_edge
      (λ k l. two_with_rim (sides (edge_in table k)) (few (edge_in table k).low (edge_in table k).high)
      (some_side mesh (edge_in table k).low (edge_in table k).high (table_pair mesh table k h l)))
      ∙ edge_sum-add sides (λ e. rim_part (sides e)) table
      ∙ ap₂ (λ a b. a + b) total_by_edges rims_counted

-- Each face list has a table of its edges: pair after pair of vertices, the edges among them.
use Rattle.surf_model.proofs.Common.{◌≡◌, ◌⊎◌, inl, inr, ℕ, zero, suc, ◌<◌, Bool, true, List, [], ◌∷◌, ◌++◌, length, get_or, refl, sym, ◌∙◌, arith, cases_Bool, cases_eq, cases_lt, both_ways, nat_tests, common_steps, get_or_append_left, All-nil, All-cons, All-append, All-weaker, list_any_at, Any-push, all_pairs_push, list_any, filter, All, AllPairs, Any, Edge, IsEdgeOf, IsPairBefore, IsTableOf, side_name, FaceList, FaceSide, IsFaceList, all_sides, joins, is_edge}
use Rattle.std.proofs.lemmas.List.{length-append}
use Rattle.std.specs.Prelude.{map}
use Rattle.surf_model.proofs.EdgeLemmas.{edge_swap, tail_used, head_used, ends_differ, used_below}
use Rattle.surf_model.proofs.ListedLemmas.{IsListed, all_listed}

-- the edge of two vertices
edge_of_pair : FaceList → ℕ → ℕ → Edge
edge_of_pair mesh u v = record { low = u; high = v; sides = map side_name (filter (joins u v) (all_sides mesh)) }

some_passes : {X : Type 0} (p : X → Bool) (xs : List X) → list_any p xs ≡ true → 0 < length (filter p xs)
some_passes p [] h = cc
some_passes p (x ∷ xs) h = elim (cases_Bool (p x)) [
  | inl here ↦ rw here (omega arith)
  | inr other ↦ rw other (some_passes p xs (rw other at h))
]

pair_is_edge : (mesh : FaceList) (u v : ℕ) → u < v → is_edge mesh u v ≡ true → IsEdgeOf mesh (edge_of_pair mesh u v)
unfolding is_edge edge_of_pair
pair_is_edge mesh u v less is = grind (arith, common_steps, some_passes)

-- the edges of the pairs before (a, b)
record IsTableBefore (mesh : FaceList) (a b : ℕ) (table : List Edge) : Type 0 where
  edges : All (IsEdgeOf mesh) table
  before : All (λ (e : Edge). IsPairBefore e.low e.high a b) table
  rising : AllPairs (λ (e f : Edge). IsPairBefore e.low e.high f.low f.high) table
  complete : (u v : ℕ) → u < v → is_edge mesh u v ≡ true → IsPairBefore u v a b → Any (λ (e : Edge). (e.low ≡ u) × (e.high ≡ v)) table

before_cases : (u v a b : ℕ) → IsPairBefore u v a (suc b) → IsPairBefore u v a b ⊎ ((u ≡ a) × (v ≡ b))
before_cases u v a b (inl less) = inl (inl less)
before_cases u v a b (inr p) = elim (cases_eq v b) [ inl same ↦ inr (p.0, same) | inr other ↦ inl (inr (p.0, omega (arith, p.1, other))) ]

before_more : (u v a b : ℕ) → IsPairBefore u v a b → IsPairBefore u v a (suc b)
before_more u v a b (inl less) = inl less
before_more u v a b (inr p) = inr (p.0, omega (arith, p.1))

before_row : (u v a b : ℕ) → IsPairBefore u v a b → IsPairBefore u v (suc a) 0
before_row u v a b (inl less) = inl (omega arith)
before_row u v a b (inr p) = inl (omega (arith, p.0))

any_left : (P : Edge → Type 0) (xs ys : List Edge) → Any P xs → Any P (xs ++ ys)
any_left P xs ys (k, x, l, is, p) =
    (k, x, omega (arith, l, length-append xs ys), get_or_append_left xs ys x k l ∙ is, p)

pair_more : (mesh : FaceList) (a b : ℕ) (table : List Edge) → IsTableBefore mesh a b table → a < b → is_edge mesh a b ≡ true
    → IsTableBefore mesh a (suc b) (table ++ edge_of_pair mesh a b ∷ [])
unfolding edge_of_pair
pair_more mesh a b table h less is =
    let e : Edge = edge_of_pair mesh a b in
    record {
      edges =
          All-append (IsEdgeOf mesh) table (e ∷ []) h.edges
          (All-cons (IsEdgeOf mesh) e [] (pair_is_edge mesh a b less is) (All-nil (IsEdgeOf mesh)));
      before =
          All-append (λ (f : Edge). IsPairBefore f.low f.high a (suc b)) table (e ∷ [])
          (All-weaker (λ (f : Edge). IsPairBefore f.low f.high a b) (λ (f : Edge). IsPairBefore f.low f.high a (suc b))
          (λ f p. before_more f.low f.high a b p) table h.before)
          (All-cons (λ (f : Edge). IsPairBefore f.low f.high a (suc b)) e [] (inr (refl, omega arith))
          (All-nil (λ (f : Edge). IsPairBefore f.low f.high a (suc b))));
      rising = all_pairs_push (λ (f g : Edge). IsPairBefore f.low f.high g.low g.high) table e h.rising (λ k d l. h.before k d l);
      complete = λ u v l is_uv p. elim (before_cases u v a b p) [
        | inl old ↦ any_left (λ (f : Edge). (f.low ≡ u) × (f.high ≡ v)) table (e ∷ []) (h.complete u v l is_uv old)
        | inr same ↦ Any-push (λ (f : Edge). (f.low ≡ u) × (f.high ≡ v)) table e (sym same.0, sym same.1)
      ];
    }

pair_skipped : (mesh : FaceList) (a b : ℕ) (table : List Edge) → IsTableBefore mesh a b table → (a < b → is_edge mesh a b ≡ true → ⊥)
    → IsTableBefore mesh a (suc b) table
pair_skipped mesh a b table h none = grind (arith, before_more, before_cases)

row : (mesh : FaceList) (a b : ℕ) (table : List Edge) → IsTableBefore mesh a 0 table → (more : List Edge) × IsTableBefore mesh a b more
row mesh a zero table h = (table, h)
row mesh a (suc b) table h =
    let old = row mesh a b table h in
    elim (cases_Bool (is_edge mesh a b)) [
      | inl is ↦ elim (cases_lt a b) [
        | inl less ↦ (old.0 ++ edge_of_pair mesh a b ∷ [], pair_more mesh a b old.0 old.1 less is)
        | inr more ↦ (old.0, pair_skipped mesh a b old.0 old.1 (λ l _. absurd (omega (arith, l, more))))
      ]
      | inr other ↦ (old.0, pair_skipped mesh a b old.0 old.1 (λ _ is. both_ways (is_edge mesh a b) other is))
    ]

next_row : (mesh : FaceList) (a : ℕ) (table : List Edge) → IsFaceList mesh → IsTableBefore mesh a mesh.count table
    → IsTableBefore mesh (suc a) 0 table
next_row mesh a table valid h =
    record {
      edges = h.edges;
      before =
          All-weaker (λ (f : Edge). IsPairBefore f.low f.high a mesh.count) (λ (f : Edge). IsPairBefore f.low f.high (suc a) 0)
          (λ f p. before_row f.low f.high a mesh.count p) table h.before;
      rising = h.rising;
      complete = λ u v l is p. h.complete u v l is (within u v is p);
    }
  where
    within : (u v : ℕ) → is_edge mesh u v ≡ true → IsPairBefore u v (suc a) 0 → IsPairBefore u v a mesh.count
    within u v is (inr p) = absurd (omega (arith, p.1))
    within u v is (inl less) = elim (cases_lt u a) [
      | inl lower ↦ inl lower
      | inr more ↦ inr (omega (arith, less, more), used_below mesh v valid (head_used mesh u v is))
    ]

rows : (mesh : FaceList) (a : ℕ) → IsFaceList mesh → (table : List Edge) × IsTableBefore mesh a 0 table
rows mesh zero valid = (
  [],
  record {
    edges = All-nil (IsEdgeOf mesh);
    before = All-nil (λ (f : Edge). IsPairBefore f.low f.high 0 0);
    rising =
        λ i j d l k. absurd (omega arith);
    complete = λ u v l is p. absurd (none u v p);
  },
)
  where
    none : (u v : ℕ) → IsPairBefore u v 0 0 → ⊥
    none u v (inl p) = omega arith
    none u v (inr p) = omega (arith, p.1)
rows mesh (suc a) valid =
    let old = rows mesh a valid in
    let all = row mesh a mesh.count old.0 old.1 in
    (all.0, next_row mesh a all.0 valid all.1)

-- a side joins the vertices of an edge that has them
joins_pair : (u v low high : ℕ) (s : FaceSide) → low ≡ u → high ≡ v → ((s.tail ≡ u) × (s.head ≡ v)) ⊎ ((s.tail ≡ v) × (s.head ≡ u))
    → joins low high s ≡ true
joins_pair u v low high s a b h = grind (arith, nat_tests)

any_joins : (table : List Edge) (u v : ℕ) (s : FaceSide) → ((s.tail ≡ u) × (s.head ≡ v)) ⊎ ((s.tail ≡ v) × (s.head ≡ u))
    → Any (λ (e : Edge). (e.low ≡ u) × (e.high ≡ v)) table → Any (λ (e : Edge). joins e.low e.high s ≡ true) table
any_joins table u v s h (k, e, l, is, p) = (k, e, l, is, joins_pair u v e.low e.high s p.0 p.1 h)

pub some_table : (mesh : FaceList) → IsFaceList mesh → (table : List Edge) × IsTableOf mesh table
unfolding is_edge
some_table mesh valid = (all.0, record { edges = all.1.edges; rising = all.1.rising; complete = complete })
  where
    all : (table : List Edge) × IsTableBefore mesh mesh.count 0 table
    all = rows mesh mesh.count valid

    edge_at : (u v : ℕ) → u < v → is_edge mesh u v ≡ true → Any (λ (e : Edge). (e.low ≡ u) × (e.high ≡ v)) all.0
    edge_at u v less is = all.1.complete u v less is (inl (used_below mesh u valid (tail_used mesh u v is)))

    joined : (s : FaceSide) → IsListed mesh s → is_edge mesh s.tail s.head ≡ true → Any (λ (e : Edge). joins e.low e.high s ≡ true) all.0
    joined s listed is = elim (cases_lt s.tail s.head) [
      | inl less ↦ any_joins all.0 s.tail s.head s (inl (refl, refl)) (edge_at s.tail s.head less is)
      | inr more ↦
          let ends : s.tail ≡ s.head → ⊥ = λ same. ends_differ mesh (side_name s) valid listed.side
          (sym listed.tail ∙ same ∙ listed.head) in
          let less : s.head < s.tail = omega (arith, more, ends) in
          any_joins all.0 s.head s.tail s (inr (refl, refl)) (edge_at s.head s.tail less (edge_swap mesh s.head s.tail ∙ is))
    ]

    complete : (k : ℕ) (d : FaceSide) → k < length (all_sides mesh)
        → Any (λ (e : Edge). joins e.low e.high (get_or (all_sides mesh) k d) ≡ true) all.0
    complete k d l =
        let s : FaceSide = get_or (all_sides mesh) k d in
        joined s (all_listed mesh k d l)
        (list_any_at (joins s.tail s.head) (all_sides mesh) k d l (joins_pair s.tail s.head s.tail s.head s refl refl (inl (refl, refl))))

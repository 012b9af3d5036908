-- The verdict on a chain, from what is left at each edge.
use Rattle.homology.proofs.Common.{IsChain, boundary, count_difference, along, share, number_at, GrewBy, AreNumbersWithin, AreTableNumbers, IsLeft, IsBalancedAt, IsLeastUnbalanced, ◌≡◌, ◌≢◌, ℕ, zero, suc, ◌<◌, ◌≤◌, List, [], ◌∷◌, length, refl, sym, subst, arith, ℤ, pos, negsuc, nat_tests, ints, IsTrue, neg_ℤ, unsigned_abs, replicate, IsEdgeBetween, edge_between, same_pair, table_pair, place_before, Edge, IsTableOf, IsPairBefore, edge_in, FaceList, is_edge}

-- faces with the same numbers have the same boundary
pub boundary_agrees : (mesh : FaceList) (one other : ℕ → ℤ) (low high : ℕ) → ((f : ℕ) → one f ≡ other f)
    → boundary mesh one low high ≡ boundary mesh other low high
boundary_agrees mesh one other low high same = grind arith

module _ (mesh : FaceList) (table : List Edge) (of_face listed : ℕ → ℤ) (first second : List ℕ) (rest : List ℤ)
    (h : IsTableOf mesh table) (same : (f : ℕ) → of_face f ≡ listed f) (left : IsLeft mesh table of_face first second rest) where
  something_left : (k : ℕ) → k < length table → number_at rest k ≢ pos 0
      → IsBalancedAt mesh listed first second (edge_in table k).low (edge_in table k).high → ⊥
  something_left k l some even = grind (arith, boundary_agrees)

  -- an edge of the mesh stands in the table
  at_edge : (a b : ℕ) → a < b → IsTrue (is_edge mesh a b)
      → ((k : ℕ) → k < length table → (edge_in table k).low ≡ a → (edge_in table k).high ≡ b → number_at rest k ≡ pos 0)
      → IsBalancedAt mesh listed first second a b
  at_edge a b up edge none =
      let found : IsEdgeBetween table a b = edge_between mesh table a b h edge in
      let e : Edge = edge_in table found.edge in
      let ends = same_pair a b e.low e.high up (h.edges found.edge _ found.in_table).ordered found.ends in grind arith

  pub chain_holds : ((k : ℕ) → k < length table → number_at rest k ≡ pos 0) → IsChain mesh listed first second
  chain_holds none = record { balanced = λ low high up edge. at_edge low high up edge (λ k l p q. none k l) }

  pub chain_fails : (e : ℕ) → e < length table → number_at rest e ≢ pos 0 → ((k : ℕ) → k < e → number_at rest k ≡ pos 0)
      → IsLeastUnbalanced mesh listed first second (edge_in table e).low (edge_in table e).high
  chain_fails e l some none = record {
    ordered = (h.edges e _ l).ordered;
    edge = table_pair mesh table e h l;
    against = something_left e l some;
    least = λ a b up edge before.
        at_edge a b up edge
        (λ k lk p q. none k (place_before mesh table k e h lk l
        (subst (λ x. IsPairBefore x (edge_in table k).high (edge_in table e).low (edge_in table e).high) (sym p)
        (subst (λ x. IsPairBefore a x (edge_in table e).low (edge_in table e).high) (sym q) before))));
  }

-- the darts of the second walk, taken
along-back : (walk : List ℕ) (low high : ℕ) → along (share (negsuc 0) low high) walk ≡ neg_ℤ (along (share (pos 1) low high) walk)
along-back [] low high = refl
along-back (u ∷ []) low high = refl
along-back (u ∷ v ∷ walk) low high =
    let more = along-back (v ∷ walk) low high in
    let here = share-back_one u v in
    omega (arith, ints, more, here)
  where
    share-back_one : (u v : ℕ) → share (negsuc 0) low high u v ≡ neg_ℤ (share (pos 1) low high u v)
    share-back_one u v = grind (arith, nat_tests)

-- one walk given and the other one taken, from nothing
pub given_walks : (table : List Edge) (first second : List ℕ) (old one two : List ℤ)
    → length old ≡ length table → ((k : ℕ) → number_at old k ≡ pos 0)
    → GrewBy table (λ low high. along (share (pos 1) low high) first) old one
    → GrewBy table (λ low high. along (share (negsuc 0) low high) second) one two
    → AreTableNumbers table two (count_difference first second)
given_walks table first second old one two long none given back = grind (arith, along-back)

-- and the faces taken
pub left_over : (mesh : FaceList) (table : List Edge) (of_face : ℕ → ℤ) (first second : List ℕ) (counts rest : List ℤ)
    → AreTableNumbers table counts (count_difference first second)
    → GrewBy table (λ low high. neg_ℤ (boundary mesh of_face low high)) counts rest → IsLeft mesh table of_face first second rest
left_over mesh table of_face first second counts rest are taken = grind arith

pub zeros_within : (numbers : List ℤ) → ((k : ℕ) → number_at numbers k ≡ pos 0) → AreNumbersWithin 0 numbers
zeros_within numbers h = record { each = λ k. subst (λ z. unsigned_abs z ≤ 0) (sym (h k)) (omega arith) }

pub within_more : (a b : ℕ) (numbers : List ℤ) → AreNumbersWithin a numbers → a ≤ b → AreNumbersWithin b numbers
within_more a b numbers h l = record { each = λ k. omega (arith, h.each k, l) }

pub number_at-zeros : (n k : ℕ) → number_at (replicate n (pos 0)) k ≡ pos 0
number_at-zeros zero k = refl
number_at-zeros (suc n) zero = refl
number_at-zeros (suc n) (suc k) = number_at-zeros n k

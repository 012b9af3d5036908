-- The sum over all edges, of the number of an edge times what a walk counts there, is the sum along the walk.
use Rattle.homology.proofs.Common.{count_of, count_difference, dart_number, separation, edge_sum, total, along, share, ◌≡◌, ◌≢◌, inl, inr, ℕ, zero, suc, ◌<◌, List, [], ◌∷◌, length, get_or, refl, ap, sym, ◌∙◌, arith, ℤ, pos, ◌+ℤ◌, ◌-ℤ◌, *ℤ-zero, ints, ◌*ℤ◌, neg_ℤ, map, Linked, links, IsEdgeBetween, edge_between, Edge, IsTableOf, HasEnds, edge_in, FaceList, IsWalk}
use Rattle.homology.proofs.RingLemmas.{times-sum, times-one, times-minus, times-opposite}
use Rattle.homology.proofs.TallyLemmas.{apart, other-share}

-- ---- sums of which one term counts

pub total_none : {X : Type 0} (g : X → ℤ) (xs : List X) (x : X) → ((k : ℕ) → k < length xs → g (get_or xs k x) ≡ pos 0)
    → total (map g xs) ≡ pos 0
total_none g [] x h = refl
total_none g (y ∷ xs) x h =
    let here = h 0 (omega arith) in
    let more = total_none g xs x (λ k l. h (suc k) (omega arith)) in grind arith

pub total_one : {X : Type 0} (g : X → ℤ) (xs : List X) (x : X) (i : ℕ) → i < length xs
    → ((k : ℕ) → k < length xs → k ≢ i → g (get_or xs k x) ≡ pos 0) → total (map g xs) ≡ g (get_or xs i x)
total_one g [] x i l h = absurd (omega arith)
total_one g (y ∷ xs) x zero l h =
    let more = total_none g xs x (λ k lk. h (suc k) (omega arith) (λ e. omega (arith, e))) in grind arith
total_one g (y ∷ xs) x (suc i) l h =
    let here = h 0 (omega arith) (λ e. omega (arith, e)) in
    let more = total_one g xs x i (omega arith) (λ k lk other. h (suc k) (omega arith) (λ e. other (omega (arith, e)))) in
    omega (arith, ints, here, more)

total-sum : {X : Type 0} (one other : X → ℤ) (xs : List X)
    → total (map (λ x. one x +ℤ other x) xs) ≡ total (map one xs) +ℤ total (map other xs)
total-sum one other [] = refl
total-sum one other (x ∷ xs) =
    let more = total-sum one other xs in
    omega (arith, ints, more)

total-same : {X : Type 0} (one other : X → ℤ) (xs : List X) → ((x : X) → one x ≡ other x) → total (map one xs) ≡ total (map other xs)
total-same one other [] h = refl
total-same one other (x ∷ xs) h =
    let more = total-same one other xs h in grind arith

-- ---- one dart, and the others of a walk

module _ (mesh : FaceList) (table : List Edge) (of_edge : ℕ → ℕ → ℤ) (h : IsTableOf mesh table) where
  abbrev no_edge : Edge
  no_edge = record { low = 0; high = 0; sides = [] }

  -- what a dart gives to an edge, times the number of the edge
  abbrev term : ℕ → ℕ → Edge → ℤ
  term u v edge = of_edge edge.low edge.high *ℤ share (pos 1) edge.low edge.high u v

  own_term : (u v : ℕ) (edge : Edge) → edge.low < edge.high → HasEnds u v edge → term u v edge ≡ dart_number of_edge u v
  own_term u v edge up (inl e) = grind (arith, times-one)
  own_term u v edge up (inr e) = grind (arith, times-minus)

  one_dart : (u v : ℕ) → IsEdgeBetween table u v → total (map (term u v) table) ≡ dart_number of_edge u v
  one_dart u v found =
      total_one (term u v) table no_edge found.edge found.in_table
      (λ k l other.
      ap (λ z. of_edge (edge_in table k).low (edge_in table k).high *ℤ z)
      (other-share (pos 1) (edge_in table found.edge) (edge_in table k) u v (h.edges found.edge no_edge found.in_table).ordered
      (h.edges k no_edge l).ordered found.ends
      (apart mesh table found.edge k h found.in_table l (λ e. other (sym e))))
      ∙ *ℤ-zero (of_edge (edge_in table k).low (edge_in table k).high))
      ∙ own_term u v (edge_in table found.edge) (h.edges found.edge no_edge found.in_table).ordered found.ends

  -- the sum over all edges, of the number of the edge times the count of a walk there
  abbrev counted : List ℕ → ℤ
  counted walk = total (map (λ (edge : Edge). of_edge edge.low edge.high *ℤ count_of walk edge.low edge.high) table)

  no_count : total (map (λ (edge : Edge). of_edge edge.low edge.high *ℤ pos 0) table) ≡ pos 0
  no_count =
      total_none (λ (edge : Edge). of_edge edge.low edge.high *ℤ pos 0) table no_edge
      (λ k l. *ℤ-zero (of_edge (edge_in table k).low (edge_in table k).high))

  along_edges : (walk : List ℕ) → Linked mesh walk → counted walk ≡ along (dart_number of_edge) walk
  along_edges [] w = no_count
  along_edges (u ∷ []) w = no_count
  along_edges (u ∷ v ∷ walk) w =
      let here = one_dart u v (edge_between mesh table u v h w.0) in
      let more = along_edges (v ∷ walk) w.1 in
      let apart_is : counted (u ∷ v ∷ walk) ≡ total (map (term u v) table) +ℤ counted (v ∷ walk) =
      total-same (λ (edge : Edge). of_edge edge.low edge.high *ℤ count_of (u ∷ v ∷ walk) edge.low edge.high)
      (λ (edge : Edge). term u v edge +ℤ of_edge edge.low edge.high *ℤ count_of (v ∷ walk) edge.low edge.high) table
      (λ edge. times-sum (of_edge edge.low edge.high) (share (pos 1) edge.low edge.high u v) (count_of (v ∷ walk) edge.low edge.high))
      ∙ total-sum (term u v) (λ (edge : Edge). of_edge edge.low edge.high *ℤ count_of (v ∷ walk) edge.low edge.high) table in grind arith

  pub sum_over_edges : (first second : List ℕ) → IsWalk mesh first → IsWalk mesh second
      → edge_sum table of_edge first second ≡ separation of_edge first second
  sum_over_edges first second v w =
      let one = along_edges first (links mesh first v) in
      let two = along_edges second (links mesh second w) in
      let minus : total (map (λ (edge : Edge). of_edge edge.low edge.high *ℤ neg_ℤ (count_of second edge.low edge.high)) table)
      ≡ neg_ℤ (counted second) = total-back table in
      let parts : edge_sum table of_edge first second
      ≡ counted first
      +ℤ total (map (λ (edge : Edge). of_edge edge.low edge.high *ℤ neg_ℤ (count_of second edge.low edge.high)) table) =
      total-same (λ (edge : Edge). of_edge edge.low edge.high *ℤ count_difference first second edge.low edge.high)
      (λ (edge : Edge). of_edge edge.low edge.high *ℤ count_of first edge.low edge.high
      +ℤ of_edge edge.low edge.high *ℤ neg_ℤ (count_of second edge.low edge.high)) table
      (λ edge.
      times-sum-back (of_edge edge.low edge.high) (count_of first edge.low edge.high) (count_of second edge.low edge.high))
      ∙ total-sum (λ (edge : Edge). of_edge edge.low edge.high *ℤ count_of first edge.low edge.high)
      (λ (edge : Edge). of_edge edge.low edge.high *ℤ neg_ℤ (count_of second edge.low edge.high)) table in
      omega (arith, ints, one, two, minus, parts)
    where
      times-sum-back : (c a b : ℤ) → c *ℤ (a -ℤ b) ≡ c *ℤ a +ℤ c *ℤ neg_ℤ b
      times-sum-back c a b = grind (arith, times-sum)

      total-back : (edges : List Edge)
          → total (map (λ (edge : Edge). of_edge edge.low edge.high *ℤ neg_ℤ (count_of second edge.low edge.high)) edges)
          ≡ neg_ℤ (total (map (λ (edge : Edge). of_edge edge.low edge.high *ℤ count_of second edge.low edge.high) edges))
      total-back [] = refl
      total-back (edge ∷ edges) =
          let more = total-back edges in
          let here = times-opposite (of_edge edge.low edge.high) (count_of second edge.low edge.high) in
          omega (arith, ints, more, here)

-- The number of leftover edges is even: put in one by one, each makes one ring more or one less, and there is one ring before
-- and one after.
use Rattle.tree_cotree.proofs.Common.{IsPermutationBelow, Rotations, IsRotationSystem, ◌≡◌, ◌≢◌, inl, inr, ℕ, zero, suc, ◌+◌, ◌*◌, ◌<◌, ◌≤◌, Bool, true, false, not, ◌&&◌, ◌||◌, ltb, refl, ap, sym, ◌∙◌, subst, arith, cases_Bool, cases_eq, both_ways, ltb-true, lt-ltb, count_below, meets, ring_count, exchanged, after_dart, MakesOneRing}
use Rattle.tree_cotree.proofs.ExchangeLemmas.{one_ring_less, one_ring_more, reached_from, meets_from, exchanged_permutes}
use Rattle.tree_cotree.proofs.AfterLemmas.{after_permutes, after_agrees, after_exchanges, DifferAt}
use Rattle.tree_cotree.proofs.SplitLemmas.{OneOfThree, tree_one, cotree_one, left_one, rings_same, one_ring_counted}

-- an edge put in or taken out changes the number of rings by one
pub data ByOne : ℕ → ℕ → Type 0 where
  one_more : (k : ℕ) → ByOne k (suc k)
  one_less : (k : ℕ) → ByOne (suc k) k

pub swap_by_one : {maps : Rotations} → IsRotationSystem maps → {inside others : ℕ → Bool} (d : ℕ) → d < maps.darts
    → DifferAt inside others (maps.edge d)
    → ByOne (ring_count (after_dart maps inside) maps.darts) (ring_count (after_dart maps others) maps.darts)
swap_by_one {maps} r {inside} {others} d l differ = elim (cases_Bool (meets f n d twin)) [
  | inl met ↦
      let more : ring_count changed n ≡ suc (ring_count f n) = one_ring_more p l twin_in apart (reached_from n f d twin met) in
      subst (ByOne (ring_count f n)) (sym more ∙ same) (one_more (ring_count f n))
  | inr off ↦
      let less : ring_count f n ≡ suc (ring_count changed n) =
      one_ring_less d twin p l twin_in apart (λ reached. both_ways (meets f n d twin) off (meets_from p l reached)) in
      subst (λ (k : ℕ). ByOne k (ring_count g n)) (sym (less ∙ ap suc same)) (one_less (ring_count g n))
]
  where
    n : ℕ
    n = maps.darts

    twin : ℕ
    twin = maps.twin d

    twin_in : twin < maps.darts
    twin_in = r.twin_within d l

    apart : d ≢ twin
    apart e = r.twin_other d l (sym e)

    f : ℕ → ℕ
    f = after_dart maps inside

    g : ℕ → ℕ
    g = after_dart maps others

    p : IsPermutationBelow maps.darts f
    p = after_permutes maps r inside

    changed : ℕ → ℕ
    changed = exchanged f d twin

    same : ring_count changed maps.darts ≡ ring_count g maps.darts
    same = rings_same g (exchanged_permutes d twin p l twin_in apart) (after_exchanges r d l differ)

-- the tree with the leftover edges below k
with_left : (tree left : ℕ → Bool) (k : ℕ) → ℕ → Bool
with_left tree left k e = tree e || (left e && ltb e k)

unopened : (tree left : ℕ → Bool) (e : ℕ) → with_left tree left 0 e ≡ tree e
unfolding with_left
unopened tree left e = go (tree e) (left e) (ltb e 0) none
  where
    none : ltb e 0 ≡ false
    none = elim (cases_Bool (ltb e 0)) [ inl less ↦ absurd (let lower : e < 0 = ltb-true e 0 less in omega arith) | inr other ↦ other ]

    go : (a b c : Bool) → c ≡ false → (a || (b && c)) ≡ a
    go true b c h = refl
    go false true c h = h
    go false false c h = refl

-- a number below suc k is below k or k itself
step_other : (tree left : ℕ → Bool) (k e : ℕ) → e ≢ k → with_left tree left (suc k) e ≡ with_left tree left k e
unfolding with_left
step_other tree left k e ne = grind arith

step_skipped : (tree left : ℕ → Bool) (k : ℕ) → left k ≡ false → with_left tree left (suc k) k ≡ with_left tree left k k
unfolding with_left
step_skipped tree left k h = rw h refl

step_taken : (tree left : ℕ → Bool) (k : ℕ) → left k ≡ true → tree k ≡ false → with_left tree left (suc k) k ≡ not (with_left tree left k k)
unfolding with_left
step_taken tree left k h t = grind arith

-- rings and leftover edges together stay odd
odd_so_far : {maps : Rotations} (tree left : ℕ → Bool) (edges : ℕ) → IsRotationSystem maps
    → ((e : ℕ) → e < edges → (d : ℕ) × (d < maps.darts) × (maps.edge d ≡ e))
    → ((e : ℕ) → e < edges → left e ≡ true → tree e ≡ false) → 0 < maps.darts → MakesOneRing maps tree → (k : ℕ) → k ≤ edges
    → (m : ℕ) × (ring_count (after_dart maps (with_left tree left k)) maps.darts + count_below left k ≡ m + m + 1)
odd_so_far {maps} tree left edges r darts apart some ring zero l = (
  0,
  (
      let same : ring_count (after_dart maps tree) maps.darts ≡ ring_count (after_dart maps (with_left tree left 0)) maps.darts =
      rings_same (after_dart maps (with_left tree left 0)) (after_permutes maps r tree)
      (λ x x_in. after_agrees maps tree (with_left tree left 0) x (sym (unopened tree left (maps.edge x)))) in
      let one : ring_count (after_dart maps tree) maps.darts ≡ 1 = one_ring_counted (after_permutes maps r tree) some ring in
      omega (arith, same, one)
      ),
)
odd_so_far {maps} tree left edges r darts apart some ring (suc k) l =
    let before = odd_so_far tree left edges r darts apart some ring k (omega arith) in
    elim (cases_Bool (left k)) [
      | inr skipped ↦
          let agree : (e : ℕ) → with_left tree left k e ≡ with_left tree left (suc k) e = λ e. elim (cases_eq e k) [
            | inl here ↦ subst (λ (x : ℕ). with_left tree left k x ≡ with_left tree left (suc k) x) (sym here)
                (sym (step_skipped tree left k skipped))
            | inr other ↦ sym (step_other tree left k e other)
          ] in
          let same : ring_count (after_dart maps (with_left tree left k)) maps.darts ≡ ring_count
          (after_dart maps (with_left tree left (suc k))) maps.darts =
          rings_same (after_dart maps (with_left tree left (suc k))) (after_permutes maps r (with_left tree left k))
          (λ x x_in. after_agrees maps (with_left tree left k) (with_left tree left (suc k)) x (agree (maps.edge x))) in
          let count : count_below left (suc k) ≡ count_below left k + 0 = rw skipped refl in
          (before.0, omega (arith, before.1, same, count))
      | inl taken ↦
          let dart = darts k (omega arith) in
          let differ : DifferAt (with_left tree left k) (with_left tree left (suc k)) k = record {
            there = step_taken tree left k taken (apart k (omega arith) taken);
            elsewhere = step_other tree left k;
          } in
          let swapped : ByOne (ring_count (after_dart maps (with_left tree left k)) maps.darts)
          (ring_count (after_dart maps (with_left tree left (suc k))) maps.darts) =
          swap_by_one r dart.0 dart.1 (subst (DifferAt (with_left tree left k) (with_left tree left (suc k))) (sym dart.2) differ) in
          let count : count_below left (suc k) ≡ count_below left k + 1 = rw taken refl in
          still_odd (ring_count (after_dart maps (with_left tree left k)) maps.darts)
          (ring_count (after_dart maps (with_left tree left (suc k))) maps.darts)
          (count_below left k) (count_below left (suc k)) before.0 swapped count before.1
    ]
  where
    still_odd : (a b c e m : ℕ) → ByOne a b → e ≡ c + 1 → a + c ≡ m + m + 1 → (k : ℕ) × (b + e ≡ k + k + 1)
    still_odd a b c e m (one_more k) h s = (m + 1, omega arith)
    still_odd a b c e m (one_less k) h s = (m, omega arith)

-- the leftover edges are 2 g
pub even_left : {maps : Rotations} (tree cotree left : ℕ → Bool) (edges : ℕ) → IsRotationSystem maps
    → ((d : ℕ) → d < maps.darts → maps.edge d < edges)
    → ((e : ℕ) → e < edges → (d : ℕ) × (d < maps.darts) × (maps.edge d ≡ e))
    → ((e : ℕ) → e < edges → OneOfThree (tree e) (cotree e) (left e)) → 0 < maps.darts → MakesOneRing maps tree
    → MakesOneRing maps (λ e. not (cotree e))
    → (g : ℕ) × (count_below left edges ≡ 2 * g)
unfolding with_left
even_left {maps} tree cotree left edges r edge_in darts kinds some ring ring_left =
    let odd = odd_so_far tree left edges r darts (λ e l is. no_tree (tree e) (cotree e) (left e) (kinds e l) is) some ring edges
    (omega arith) in
    let end : (e : ℕ) → e < edges → not (cotree e) ≡ with_left tree left edges e = λ e l. at_end e l in
    let same : ring_count (after_dart maps (λ e. not (cotree e))) maps.darts ≡ ring_count (after_dart maps (with_left tree left edges))
    maps.darts =
    rings_same (after_dart maps (with_left tree left edges)) (after_permutes maps r (λ e. not (cotree e)))
    (λ x x_in. after_agrees maps (λ e. not (cotree e)) (with_left tree left edges) x (end (maps.edge x) (edge_in x x_in))) in
    let one : ring_count (after_dart maps (λ e. not (cotree e))) maps.darts ≡ 1 =
    one_ring_counted (after_permutes maps r (λ e. not (cotree e))) some ring_left in
    (odd.0, omega (arith, odd.1, same, one))
  where
    no_tree : (a b c : Bool) → OneOfThree a b c → c ≡ true → a ≡ false
    no_tree a b c tree_one h = absurd (both_ways false refl h)
    no_tree a b c cotree_one h = absurd (both_ways false refl h)
    no_tree a b c left_one h = refl

    whole : (a b c : Bool) → OneOfThree a b c → (d : Bool) → d ≡ true → not b ≡ (a || (c && d))
    whole a b c tree_one d h = refl
    whole a b c cotree_one d h = refl
    whole a b c left_one d h = sym h

    at_end : (e : ℕ) → e < edges → not (cotree e) ≡ with_left tree left edges e
    at_end e l = whole (tree e) (cotree e) (left e) (kinds e l) (ltb e edges) (lt-ltb e edges l)

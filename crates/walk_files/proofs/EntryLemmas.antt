-- The least number that passes a test, and what is first wrong with walks.
use Rattle.walk_files.proofs.Common.{◌≡◌, ℕ, zero, suc, ◌+◌, ◌<◌, ◌≤◌, List, [], ◌∷◌, length, drop, Bool, true, false, refl, sym, ap, subst, ◌∙◌, inl, inr, add-one, arith, eq-or-lt_of_le, get_or_default, find, range_with_len, option_or, Option, Some, None, cond, not, option_map, slice_index, slice_get, FaceList, is_edge, is_used, darts, IsWalk, vertex_fault, edge_fault, first_fault, EntryFault, NoVertex, NoEdge}
use Rattle.surf_model.specs.Numbers.{first_below}

none_from : (test : ℕ → Bool) (a n : ℕ) → ((k : ℕ) → a ≤ k → k < a + n → test k ≡ false) → find test (range_with_len a n) ≡ None
none_from test a zero h = refl
none_from test a (suc n) h =
    ap (λ b. cond b (Some a) (find test (range_with_len (a + 1) n))) (h a (omega arith) (omega arith))
    ∙ none_from test (a + 1) n (λ k low high. h k (omega arith) (omega arith))

pub first_below-none : (test : ℕ → Bool) (n : ℕ) → ((k : ℕ) → k < n → test k ≡ false) → first_below test n ≡ None
first_below-none test n h = none_from test 0 n (λ k low high. h k (omega arith))

some_from : (test : ℕ → Bool) (a n i : ℕ) → a ≤ i → i < a + n → test i ≡ true → ((k : ℕ) → a ≤ k → k < i → test k ≡ false)
    → find test (range_with_len a n) ≡ Some i
some_from test a zero i low high here before = absurd (omega arith)
some_from test a (suc n) i low high here before =
    elim (eq-or-lt_of_le low) [
      | inl same ↦ ap (λ b. cond b (Some a) (find test (range_with_len (a + 1) n))) (ap test same ∙ here) ∙ ap Some same
      | inr less ↦
          ap (λ b. cond b (Some a) (find test (range_with_len (a + 1) n))) (before a (omega arith) less)
          ∙ some_from test (a + 1) n i (omega arith) (omega arith) here (λ k above below. before k (omega arith) below)
    ]

pub first_below-some : (test : ℕ → Bool) (n i : ℕ) → i < n → test i ≡ true → ((k : ℕ) → k < i → test k ≡ false)
    → first_below test n ≡ Some i
first_below-some test n i high here before = some_from test 0 n i (omega arith) (omega arith) here (λ k low less. before k less)

by_first : (b : Bool) (a : ℕ) (rest : Option ℕ) → cond b (Some a) rest ≡ None → (b ≡ false) × (rest ≡ None)
by_first true a rest e = cc
by_first false a rest e = (refl, e)

all_false : (test : ℕ → Bool) (a n : ℕ) → find test (range_with_len a n) ≡ None → (k : ℕ) → a ≤ k → k < a + n → test k ≡ false
all_false test a zero none k low high = absurd (omega arith)
all_false test a (suc n) none k low high =
    let parts = by_first (test a) a (find test (range_with_len (a + 1) n)) none in
    elim (eq-or-lt_of_le low) [
      | inl same ↦ ap test (sym same) ∙ parts.0
      | inr less ↦ all_false test (a + 1) n parts.1 k (omega arith) (omega arith)
    ]

-- where no number below n passes the test, it is false at each
pub first_below-false : (test : ℕ → Bool) (n : ℕ) → first_below test n ≡ None → (k : ℕ) → k < n → test k ≡ false
first_below-false test n none k less = all_false test 0 n none k (omega arith) (omega arith)

map-none : (f : ℕ → EntryFault) (o : Option ℕ) → option_map f o ≡ None → o ≡ None
map-none f None e = refl
map-none f (Some x) e = cc

-- where no place is at fault, the test is false at each
no_fault_at : (test : ℕ → Bool) (n : ℕ) (f : ℕ → EntryFault) → option_map f (first_below test n) ≡ None → (k : ℕ) → k < n → test k ≡ false
no_fault_at test n f e = first_below-false test n (map-none f (first_below test n) e)

-- where all places pass, none is at fault
none_at_fault : (test : ℕ → Bool) (n : ℕ) (f : ℕ → EntryFault) → ((k : ℕ) → k < n → test k ≡ false)
    → option_map f (first_below test n) ≡ None
none_at_fault test n f h = ap (option_map f) (first_below-none test n h)

pub both_none : {A : Type 0} (a b : Option A) → option_or a b ≡ None → (a ≡ None) × (b ≡ None)
both_none None b e = (refl, e)
both_none (Some x) b e = cc

not-false : (b : Bool) → not b ≡ false → b ≡ true
not-false true e = refl
not-false false e = cc

-- the walk has entries, and nothing is wrong with them and its darts
pub walk_of_none : (mesh : FaceList) (number : ℕ) (walk : List ℕ) → 0 < length walk → vertex_fault mesh number walk ≡ None
    → edge_fault mesh number walk ≡ None
    → IsWalk mesh walk
walk_of_none mesh number walk some used edges = record {
  starts = some;
  used = λ k d less.
      subst (λ v. is_used mesh v ≡ true) (get_or_default walk k 0 d less)
      (not-false _ (no_fault_at (λ j. not (is_used mesh (slice_index walk j))) (length walk) (NoVertex number) used k less));
  edges = λ k less.
      not-false _ (no_fault_at (λ j. not (is_edge mesh (slice_index walk j) (slice_index walk (j + 1)))) (darts walk) (NoEdge number) edges
      k less);
}

pub no_vertex_fault : (mesh : FaceList) (number : ℕ) (walk : List ℕ) → IsWalk mesh walk → vertex_fault mesh number walk ≡ None
no_vertex_fault mesh number walk is_walk =
    none_at_fault (λ j. not (is_used mesh (slice_index walk j))) (length walk) (NoVertex number) (λ k less. ap not (is_walk.used k 0 less))

pub no_edge_fault : (mesh : FaceList) (number : ℕ) (walk : List ℕ) → IsWalk mesh walk → edge_fault mesh number walk ≡ None
no_edge_fault mesh number walk is_walk =
    none_at_fault (λ j. not (is_edge mesh (slice_index walk j) (slice_index walk (j + 1)))) (darts walk) (NoEdge number)
    (λ k less. ap not (is_walk.edges k less))

-- ---- many walks

-- one walk more is looked at
pub first_fault-step : (fault : ℕ → List ℕ → Option EntryFault) (n : ℕ) (walks : List (List ℕ)) (k : ℕ) (walk : List ℕ) → slice_get walks k
    ≡ Some walk
    → first_fault fault n (drop k walks) ≡ option_or (fault n walk) (first_fault fault (n + 1) (drop (k + 1) walks))
first_fault-step fault n walks k walk here =
    next walks k here ∙ ap (λ j. option_or (fault n walk) (first_fault fault (n + 1) (drop j walks))) (sym (add-one k))
  where
    next : (walks : List (List ℕ)) (k : ℕ) → slice_get walks k ≡ Some walk
        → first_fault fault n (drop k walks) ≡ option_or (fault n walk) (first_fault fault (n + 1) (drop (suc k) walks))
    next [] k here = cc
    next (first ∷ walks) zero here =
        let same : first ≡ walk = cc in ap (λ (w : List ℕ). option_or (fault n w) (first_fault fault (n + 1) walks)) same
    next (first ∷ walks) (suc k) here = next walks k here

-- what is wrong with one walk or another
pub some_or : {A : Type 0} (o : Option A) (x : A) (rest : Option A) → o ≡ Some x → option_or o rest ≡ Some x
some_or o x rest is = ap (λ p. option_or p rest) is

pub none_or : {A : Type 0} (o rest : Option A) → o ≡ None → option_or o rest ≡ rest
none_or o rest is = ap (λ p. option_or p rest) is

-- what the first walks gave, and no fault in the next
pub step_passed : (whole : Option EntryFault) (fault : ℕ → List ℕ → Option EntryFault) (walks : List (List ℕ)) (k : ℕ) (walk : List ℕ)
    → whole ≡ first_fault fault (k + 1) (drop k walks) → slice_get walks k ≡ Some walk → None ≡ fault (k + 1) walk
    → whole ≡ first_fault fault (k + 1 + 1) (drop (k + 1) walks)
step_passed whole fault walks k walk so_far here passed =
    so_far ∙ first_fault-step fault (k + 1) walks k walk here ∙ none_or (fault (k + 1) walk) _ (sym passed)

-- or a fault in it
pub step_failed : (whole : Option EntryFault) (fault : ℕ → List ℕ → Option EntryFault) (walks : List (List ℕ)) (k : ℕ) (walk : List ℕ)
    (found : EntryFault)
    → whole ≡ first_fault fault (k + 1) (drop k walks) → slice_get walks k ≡ Some walk → Some found ≡ fault (k + 1) walk
    → whole ≡ Some found
step_failed whole fault walks k walk found so_far here failed =
    so_far ∙ first_fault-step fault (k + 1) walks k walk here ∙ some_or (fault (k + 1) walk) found _ (sym failed)

-- What is first wrong with walks that should come in pairs.
use Rattle.walk_files.proofs.Common.{◌≡◌, ℕ, zero, suc, ◌+◌, ◌*◌, ◌<◌, ◌≤◌, List, [], ◌∷◌, length, drop, Bool, true, false, refl, sym, ap, ◌∙◌, eq-eqb, arith, eqb-true, All-head, All-tail, All-cons, All-nil, option_or, Option, Some, None, Result, IsOk, All, option_map, slice_index, slice_get, if◌then◌else◌, result_err, FaceList, darts, IsWalk, HaveCommonEnds, vertex_fault, edge_fault, first_fault, walks_fault, WalkPair, walks_in_pairs, are_paired, ArePairs, pairs_ends_fault, pairs_fault, WalkText, EntryFault}
use Rattle.std.specs.Prelude.{◌==◌}
use Rattle.walk_files.specs.PairLists.{of_entry, ends_fault}
use Rattle.walk_files.specs.declared.pairs.PairsFault.{PairsFault}
use Rattle.walk_files.specs.declared.pairs.PairsFault.TheVariants.{NotPairs, EndsDiffer}
use Rattle.walk_files.proofs.TwoWalkLemmas.{says, if_none}
use Rattle.walk_files.proofs.EntryLemmas.{both_none, none_or, some_or, walk_of_none, no_vertex_fault, no_edge_fault}

-- ---- one pair more

pair_step : (walks : List (List ℕ)) (n : ℕ) (a b : List ℕ) → slice_get walks n ≡ Some a → slice_get walks (suc n) ≡ Some b
    → walks_in_pairs (drop n walks) ≡ record { first = a; second = b } ∷ walks_in_pairs (drop (suc (suc n)) walks)
pair_step [] zero a b e f = cc
pair_step [] (suc n) a b e f = cc
pair_step (x ∷ []) zero a b e f = cc
pair_step (x ∷ y ∷ walks) zero a b e f =
    let same : x ≡ a = cc in
    let other : y ≡ b = cc in
    ap (λ (w : List ℕ). record { first = w; second = y } ∷ walks_in_pairs walks) same
    ∙ ap (λ (w : List ℕ). record { first = a; second = w } ∷ walks_in_pairs walks) other
pair_step (x ∷ walks) (suc n) a b e f = pair_step walks n a b e f

next_pair : (walks : List (List ℕ)) (k : ℕ) (a b : List ℕ) → slice_get walks (2 * k) ≡ Some a → slice_get walks (2 * k + 1) ≡ Some b
    → walks_in_pairs (drop (2 * k) walks) ≡ record { first = a; second = b } ∷ walks_in_pairs (drop (2 * (k + 1)) walks)
next_pair walks k a b e f =
    let one : 2 * k + 1 ≡ suc (2 * k) = omega arith in
    let two : suc (suc (2 * k)) ≡ 2 * (k + 1) = omega arith in
    pair_step walks (2 * k) a b e (ap (slice_get walks) (sym one) ∙ f)
    ∙ ap (λ n. record { first = a; second = b } ∷ walks_in_pairs (drop n walks)) two

-- what the first pairs gave, and no fault in the next, or one
pub pair_passed : (whole : Option PairsFault) (walks : List (List ℕ)) (k : ℕ) (a b : List ℕ)
    → whole ≡ pairs_ends_fault (k + 1) (walks_in_pairs (drop (2 * k) walks)) → slice_get walks (2 * k) ≡ Some a
    → slice_get walks (2 * k + 1) ≡ Some b → None ≡ ends_fault (k + 1) (record { first = a; second = b })
    → whole ≡ pairs_ends_fault (k + 1 + 1) (walks_in_pairs (drop (2 * (k + 1)) walks))
pair_passed whole walks k a b so_far e f passed =
    so_far ∙ ap (pairs_ends_fault (k + 1)) (next_pair walks k a b e f)
    ∙ none_or (ends_fault (k + 1) (record { first = a; second = b })) _ (sym passed)

pub pair_failed : (whole : Option PairsFault) (walks : List (List ℕ)) (k : ℕ) (a b : List ℕ) (fault : PairsFault)
    → whole ≡ pairs_ends_fault (k + 1) (walks_in_pairs (drop (2 * k) walks)) → slice_get walks (2 * k) ≡ Some a
    → slice_get walks (2 * k + 1) ≡ Some b → Some fault ≡ ends_fault (k + 1) (record { first = a; second = b })
    → whole ≡ Some fault
pair_failed whole walks k a b fault so_far e f failed =
    so_far ∙ ap (pairs_ends_fault (k + 1)) (next_pair walks k a b e f)
    ∙ some_or (ends_fault (k + 1) (record { first = a; second = b })) fault _ (sym failed)

-- behind the last pair one walk at most is left
pairs_end : (walks : List (List ℕ)) (n : ℕ) → length walks ≤ n + 1 → walks_in_pairs (drop n walks) ≡ []
pairs_end [] zero all = refl
pairs_end [] (suc n) all = refl
pairs_end (x ∷ []) zero all = refl
pairs_end (x ∷ y ∷ walks) zero all = absurd (omega (arith, all))
pairs_end (x ∷ walks) (suc n) all = pairs_end walks n (omega (arith, all))

pub pairs_left : (walks : List (List ℕ)) (k : ℕ)
    → pairs_ends_fault 1 (walks_in_pairs walks) ≡ pairs_ends_fault (k + 1) (walks_in_pairs (drop (2 * k) walks)) → length walks ≤ 2 * k + 1
    → pairs_ends_fault 1 (walks_in_pairs walks) ≡ None
pairs_left walks k so_far all = so_far ∙ ap (pairs_ends_fault (k + 1)) (pairs_end walks (2 * k) all)

-- ---- nothing is wrong exactly with pairs

walks_all : (mesh : FaceList) (number : ℕ) (walks : List (List ℕ)) → All (λ walk. 0 < length walk) walks
    → first_fault (vertex_fault mesh) number walks ≡ None → first_fault (edge_fault mesh) number walks ≡ None
    → All (IsWalk mesh) walks
walks_all mesh number [] some used edges = All-nil (IsWalk mesh)
walks_all mesh number (walk ∷ walks) some used edges =
    let vertices = both_none (vertex_fault mesh number walk) (first_fault (vertex_fault mesh) (number + 1) walks) used in
    let joined = both_none (edge_fault mesh number walk) (first_fault (edge_fault mesh) (number + 1) walks) edges in
    All-cons (IsWalk mesh) walk walks
    (walk_of_none mesh number walk (All-head (λ (w : List ℕ). 0 < length w) walk walks some) vertices.0 joined.0)
    (walks_all mesh (number + 1) walks (All-tail (λ (w : List ℕ). 0 < length w) walk walks some) vertices.1 joined.1)

no_fault : (mesh : FaceList) (fault : ℕ → List ℕ → Option EntryFault) → ((n : ℕ) (walk : List ℕ) → IsWalk mesh walk → fault n walk ≡ None)
    → (number : ℕ) (walks : List (List ℕ)) → All (IsWalk mesh) walks → first_fault fault number walks ≡ None
no_fault mesh fault each number [] all = refl
no_fault mesh fault each number (walk ∷ walks) all =
    none_or (fault number walk) (first_fault fault (number + 1) walks) (each number walk (All-head (IsWalk mesh) walk walks all))
    ∙ no_fault mesh fault each (number + 1) walks (All-tail (IsWalk mesh) walk walks all)

no_walks_fault : (mesh : FaceList) (walks : List (List ℕ)) → All (IsWalk mesh) walks → walks_fault mesh walks ≡ None
no_walks_fault mesh walks all =
    none_or (first_fault (vertex_fault mesh) 1 walks) (first_fault (edge_fault mesh) 1 walks)
    (no_fault mesh (vertex_fault mesh) (λ n walk is. no_vertex_fault mesh n walk is) 1 walks all)
    ∙ no_fault mesh (edge_fault mesh) (λ n walk is. no_edge_fault mesh n walk is) 1 walks all

ends_of_none : (number : ℕ) (pair : WalkPair) → ends_fault number pair ≡ None → HaveCommonEnds pair.first pair.second
ends_of_none number pair none =
    let starts = if_none (slice_index pair.first 0 == slice_index pair.second 0) (EndsDiffer number true) _ none in
    let ends = if_none (slice_index pair.first (darts pair.first) == slice_index pair.second (darts pair.second)) (EndsDiffer number false)
    None starts.1 in
    record { starts = eqb-true _ _ starts.0; ends = eqb-true _ _ ends.0 }

no_ends_fault : (number : ℕ) (pair : WalkPair) → HaveCommonEnds pair.first pair.second → ends_fault number pair ≡ None
no_ends_fault number pair ends =
    rw (
      eq-eqb (slice_index pair.first 0) (slice_index pair.second 0) ends.starts,
      eq-eqb (slice_index pair.first (darts pair.first)) (slice_index pair.second (darts pair.second)) ends.ends,
    ) refl

ends_all : (number : ℕ) (pairs : List WalkPair) → pairs_ends_fault number pairs ≡ None
    → All (λ pair. HaveCommonEnds pair.first pair.second) pairs
ends_all number [] none = All-nil (λ (pair : WalkPair). HaveCommonEnds pair.first pair.second)
ends_all number (pair ∷ pairs) none =
    let parts = both_none (ends_fault number pair) (pairs_ends_fault (number + 1) pairs) none in
    All-cons (λ (p : WalkPair). HaveCommonEnds p.first p.second) pair pairs (ends_of_none number pair parts.0)
    (ends_all (number + 1) pairs parts.1)

no_pairs_fault : (number : ℕ) (pairs : List WalkPair) → All (λ pair. HaveCommonEnds pair.first pair.second) pairs
    → pairs_ends_fault number pairs ≡ None
no_pairs_fault number [] all = refl
no_pairs_fault number (pair ∷ pairs) all =
    none_or (ends_fault number pair) (pairs_ends_fault (number + 1) pairs)
    (no_ends_fault number pair (All-head (λ (p : WalkPair). HaveCommonEnds p.first p.second) pair pairs all))
    ∙ no_pairs_fault (number + 1) pairs (All-tail (λ (p : WalkPair). HaveCommonEnds p.first p.second) pair pairs all)

no_entry : (o : Option EntryFault) → option_map of_entry o ≡ None → o ≡ None
no_entry None e = refl
no_entry (Some fault) e = cc

pub pairs_of_none : (mesh : FaceList) (text : WalkText) → All (λ walk. 0 < length walk) text.walks → pairs_fault mesh text ≡ None
    → ArePairs mesh text
pairs_of_none mesh text some none = by_count (are_paired text.version (length text.walks)) refl none
  where
    by_count : (b : Bool) → are_paired text.version (length text.walks) ≡ b
        → (if b then option_or (option_map of_entry (walks_fault mesh text.walks)) (pairs_ends_fault 1 (walks_in_pairs text.walks))
        else Some (NotPairs (length text.walks))) ≡ None
        → ArePairs mesh text
    by_count false e h = cc
    by_count true e h =
        let parts = both_none (option_map of_entry (walks_fault mesh text.walks)) (pairs_ends_fault 1 (walks_in_pairs text.walks)) h in
        let entries = both_none (first_fault (vertex_fault mesh) 1 text.walks) (first_fault (edge_fault mesh) 1 text.walks)
        (no_entry (walks_fault mesh text.walks) parts.0) in
        record {
          paired = e;
          walks = walks_all mesh 1 text.walks some entries.0 entries.1;
          ends = ends_all 1 (walks_in_pairs text.walks) parts.1;
        }

pub none_of_pairs : (mesh : FaceList) (text : WalkText) → ArePairs mesh text → pairs_fault mesh text ≡ None
none_of_pairs mesh text pairs =
    let paired : are_paired text.version (length text.walks) ≡ true = pairs.paired in
    let entries : walks_fault mesh text.walks ≡ None = no_walks_fault mesh text.walks pairs.walks in
    rw (paired, entries) (no_pairs_fault 1 (walks_in_pairs text.walks) pairs.ends)

-- a result that says what is wrong says whether the walks come in pairs
pub says_pairs : (mesh : FaceList) (text : WalkText) (r : Result (Unit {0}) PairsFault) → All (λ walk. 0 < length walk) text.walks
    → result_err r ≡ pairs_fault mesh text → (IsOk r → ArePairs mesh text) × (ArePairs mesh text → IsOk r)
says_pairs mesh text r some =
    says (ArePairs mesh text) (pairs_fault mesh text) r (pairs_of_none mesh text some) (none_of_pairs mesh text)

-- ---- the first of the checks that fails

pub entry_fails : (mesh : FaceList) (text : WalkText) (fault : EntryFault) → are_paired text.version (length text.walks) ≡ true
    → Some fault ≡ walks_fault mesh text.walks → Some (of_entry fault) ≡ pairs_fault mesh text
entry_fails mesh text fault paired is = rw (paired, ← is) refl

pub ends_fail : (mesh : FaceList) (text : WalkText) (found : Option PairsFault) → are_paired text.version (length text.walks) ≡ true
    → None ≡ walks_fault mesh text.walks → pairs_ends_fault 1 (walks_in_pairs text.walks) ≡ found → found ≡ pairs_fault mesh text
ends_fail mesh text found paired is ends = rw (paired, ← is) (sym ends)

-- Edits of a list that is cut in three, and of one whose entries move to another.
use Rattle.segmented_pool.proofs.Common.{inserted, cut, spliced, ◌≡◌, ℕ, ◌+◌, ◌-◌, ◌<◌, ◌≤◌, List, ◌∷◌, ◌++◌, length, take, drop, get_or, sym, ap, ◌∙◌, arith, append_assoc, get_or-append, common_steps, take-append-le, drop-append-le, get_or-append-add, length-take-le, drop-drop}
use Rattle.std.proofs.Math.Seq.{take-append-add, drop-append-add, take-append_seam, drop-append_seam}

module _ (a p b : List ℕ) where
  take_within : (i : ℕ) → i ≤ length p → take (length a + i) (a ++ (p ++ b)) ≡ a ++ take i p
  take_within i le = take-append-add a (p ++ b) i ∙ ap (λ (l : List ℕ). a ++ l) (take-append-le i p b le)

  drop_within : (i : ℕ) → i ≤ length p → drop (length a + i) (a ++ (p ++ b)) ≡ drop i p ++ b
  drop_within i le = drop-append-add a (p ++ b) i ∙ drop-append-le i p b le

  pub inserted_within : (i value : ℕ) → i ≤ length p → inserted (a ++ (p ++ b)) (length a + i) value ≡ a ++ (inserted p i value ++ b)
  inserted_within i value le =
      rw (take_within i le, drop_within i le)
      (append_assoc a (take i p) (value ∷ (drop i p ++ b))
      ∙ ap (λ (l : List ℕ). a ++ l) (sym (append_assoc (take i p) (value ∷ drop i p) b)))

  pub cut_within : (i j : ℕ) → i ≤ j → j ≤ length p → cut (a ++ (p ++ b)) (length a + i) (length a + j) ≡ a ++ (cut p i j ++ b)
  cut_within i j order le =
      let first : i ≤ length p = omega arith in
      rw (take_within i first, drop_within j le)
      (append_assoc a (take i p) (drop j p ++ b) ∙ ap (λ (l : List ℕ). a ++ l) (sym (append_assoc (take i p) (drop j p) b)))

  pub entry_within : (i : ℕ) → i < length p → get_or (a ++ (p ++ b)) (length a + i) 0 ≡ get_or p i 0
  entry_within i lt = get_or-append-add a (p ++ b) i 0 ∙ get_or-append p b 0 i lt

  pub part_within : take (length p) (drop (length a) (a ++ (p ++ b))) ≡ p
  part_within = rw (drop-append_seam a (p ++ b)) (take-append_seam p b)

module _ (list : List ℕ) (place : ℕ) (within : place ≤ length list) where
  -- the entry behind those that went
  pub entry_behind_cut : (to : ℕ) → get_or (cut list place to) place 0 ≡ get_or list to 0
  entry_behind_cut to = grind (arith, common_steps)

  -- more entries go at the same place
  pub cut_again : (to more : ℕ) → cut (cut list place to) place (place + more) ≡ cut list place (to + more)
  cut_again to more =
      let len : length (take place list) ≡ place = length-take-le place list within in
      let first : take place (take place list ++ drop to list) ≡ take place list =
      ap (λ (k : ℕ). take k (take place list ++ drop to list)) (sym len) ∙ take-append_seam (take place list) (drop to list) in
      let second : drop (place + more) (take place list ++ drop to list) ≡ drop (to + more) list =
      ap (λ (k : ℕ). drop (k + more) (take place list ++ drop to list)) (sym len)
      ∙ drop-append-add (take place list) (drop to list) more ∙ drop-drop more to list in grind arith

-- one entry more of another list goes in behind the last one
pub inserted_last : (list : List ℕ) (n value : ℕ) → n < length list → get_or list n 0 ≡ value
    → inserted (take n list) n value ≡ take (n + 1) list
inserted_last list n value lt e = grind (arith, common_steps)

-- a list that goes in behind the last entry of another
pub spliced_last : (list other : List ℕ) (n : ℕ) → n ≡ length list → spliced list n other ≡ list ++ other
spliced_last list other n e = grind (arith, common_steps)

pub length-cut : (list : List ℕ) (from to : ℕ) → from ≤ to → to ≤ length list → length (cut list from to) + to ≡ length list + from
length-cut list from to order le = grind (arith, common_steps)

pub length-inserted : (list : List ℕ) (place value : ℕ) → length (inserted list place value) ≡ length list + 1
length-inserted list place value = grind (arith, common_steps)

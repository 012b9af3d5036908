-- Marks of segments, and what an edit of one segment is of the whole list.
use Rattle.segmented_pool.proofs.Common.{inserted, cut, part, IsMark, IsInSegment, Mark, ◌≡◌, ℕ, zero, suc, ◌+◌, ◌-◌, ◌<◌, ◌≤◌, List, [], ◌∷◌, ◌++◌, length, take, drop, set, get_or, sym, ap, ◌∙◌, arith, add-one, length-append, common_steps, concat}
use Rattle.segmented_pool.proofs.Joined.{concat_at, concat_set}
use Rattle.segmented_pool.proofs.Lists.{inserted_within, cut_within, entry_within, part_within}

length_more : (ps : List (List ℕ)) (k : ℕ) → k < length ps
    → length (concat (take (suc k) ps)) ≡ length (concat (take k ps)) + length (part ps k)
length_more [] k lt = absurd (omega arith)
length_more (p ∷ ps) zero lt = omega (arith, length-append p [])
length_more (p ∷ ps) (suc k) lt =
    omega (
      arith,
      length_more ps k (omega arith),
      length-append p (concat (take (suc k) ps)),
      length-append p (concat (take k ps)),
    )

-- the mark of the segment behind another
pub mark_behind : (ps : List (List ℕ)) (mark next : Mark) → IsMark ps mark → next.index ≡ mark.index + 1 → next.index < length ps
    → next.start ≡ mark.start + length (part ps mark.index) → IsMark ps next
mark_behind ps mark next is i lt s = grind (arith, add-one, length_more)

-- and the mark of the segment before
pub mark_before : (ps : List (List ℕ)) (mark next : Mark) → IsMark ps mark → next.index + 1 ≡ mark.index
    → next.start + length (part ps next.index) ≡ mark.start → IsMark ps next
mark_before ps mark next is i s = grind (arith, common_steps, add-one, length_more)

-- a segment that has entries before it is not the first one
pub some_before : (ps : List (List ℕ)) (mark : Mark) → IsMark ps mark → 0 < mark.start → 0 < mark.index
some_before ps mark is lt = grind arith

pub mark_stays : (old new : List (List ℕ)) (mark : Mark) → IsMark old mark → take mark.index new ≡ take mark.index old
    → mark.index < length new → IsMark new mark
mark_stays old new mark is same lt = record { within = lt; start = is.start ∙ ap (λ (l : List (List ℕ)). length (concat l)) (sym same) }

module _ (ps : List (List ℕ)) (mark : Mark) (is : IsMark ps mark) where
  abbrev here : List ℕ
  here = part ps mark.index

  abbrev ahead : List ℕ
  ahead = concat (take mark.index ps)

  abbrev behind : List ℕ
  behind = concat (drop (suc mark.index) ps)

  pub mark_after_set : (l : List ℕ) → IsMark (set ps mark.index l) mark
  mark_after_set l = grind (arith, common_steps, mark_stays)

  -- the segment lies within the list
  pub end_within : mark.start + length here ≤ length (concat ps)
  end_within =
      omega (
        arith,
        is.start,
        ap (λ (l : List ℕ). length l) (concat_at ps mark.index is.within),
        length-append ahead (here ++ behind),
        length-append here behind,
      )

  pub inserted_at : (place value : ℕ) → mark.start ≤ place → place ≤ mark.start + length here
      → concat (set ps mark.index (inserted here (place - mark.start) value)) ≡ inserted (concat ps) place value
  inserted_at place value from to =
      let there : length ahead + (place - mark.start) ≡ place = omega (arith, is.start) in
      concat_set ps mark.index _ is.within
      ∙ sym (inserted_within ahead here behind (place - mark.start) value (omega arith))
      ∙ ap (λ (k : ℕ). inserted (ahead ++ (here ++ behind)) k value) there
      ∙ ap (λ (l : List ℕ). inserted l place value) (sym (concat_at ps mark.index is.within))

  pub cut_at : (from to : ℕ) → mark.start ≤ from → from ≤ to → to ≤ mark.start + length here
      → concat (set ps mark.index (cut here (from - mark.start) (to - mark.start))) ≡ cut (concat ps) from to
  cut_at from to first order last =
      let there : length ahead + (from - mark.start) ≡ from = omega (arith, is.start) in
      let until : length ahead + (to - mark.start) ≡ to = omega (arith, is.start) in
      concat_set ps mark.index _ is.within
      ∙ sym (cut_within ahead here behind (from - mark.start) (to - mark.start) (omega arith) (omega arith))
      ∙ ap (λ (k : ℕ). cut (ahead ++ (here ++ behind)) k (length ahead + (to - mark.start))) there
      ∙ ap (λ (k : ℕ). cut (ahead ++ (here ++ behind)) from k) until
      ∙ ap (λ (l : List ℕ). cut l from to) (sym (concat_at ps mark.index is.within))

  pub entry_at : (place : ℕ) → mark.start ≤ place → place < mark.start + length here
      → get_or here (place - mark.start) 0 ≡ get_or (concat ps) place 0
  entry_at place from to =
      let there : length ahead + (place - mark.start) ≡ place = omega (arith, is.start) in
      sym (entry_within ahead here behind (place - mark.start) (omega arith))
      ∙ ap (λ (k : ℕ). get_or (ahead ++ (here ++ behind)) k 0) there
      ∙ ap (λ (l : List ℕ). get_or l place 0) (sym (concat_at ps mark.index is.within))

  pub part_at : take (length here) (drop mark.start (concat ps)) ≡ here
  part_at =
      ap (λ (l : List ℕ). take (length here) (drop mark.start l)) (concat_at ps mark.index is.within)
      ∙ ap (λ (k : ℕ). take (length here) (drop k (ahead ++ (here ++ behind)))) is.start
      ∙ part_within ahead here behind

-- what lies before the segment before a mark
pub before_start : (ps : List (List ℕ)) (mark : Mark) (k : ℕ) → IsMark ps mark → k + 1 ≡ mark.index → length (part ps k) ≤ mark.start
before_start ps mark k is e = grind (arith, add-one, length_more)

-- the last segment ends where the list ends
pub end_of_last : (ps : List (List ℕ)) (k : ℕ) → k + 1 ≡ length ps → length (concat (take k ps)) + length (part ps k) ≡ length (concat ps)
end_of_last ps k e = grind (arith, common_steps, length_more)

pub last_mark : (ps : List (List ℕ)) (mark : Mark) → mark.index + 1 ≡ length ps
    → mark.start + length (part ps mark.index) ≡ length (concat ps)
    → IsMark ps mark
last_mark ps mark i s = record { within = omega (arith, i); start = omega (arith, s, end_of_last ps mark.index i) }

-- two neighbours lie within the list
pub neighbours : (ps : List (List ℕ)) (k j : ℕ) → k + 1 ≡ j → j < length ps
    → length (part ps k) + length (part ps j) ≤ length (concat ps)
neighbours [] k j e lt = absurd (omega arith)
neighbours (p ∷ []) k j e lt = absurd (omega arith)
neighbours (p ∷ ps) k zero e lt = absurd (omega arith)
neighbours (p ∷ q ∷ ps) zero (suc zero) e lt = omega (arith, length-append p (q ++ concat ps), length-append q (concat ps))
neighbours (p ∷ ps) zero (suc (suc j)) e lt = absurd (omega arith)
neighbours (p ∷ q ∷ ps) (suc k) (suc j) e lt =
    omega (arith, length-append p (q ++ concat ps), neighbours (q ∷ ps) k j (omega arith) (omega arith))

pub found_last : (ps : List (List ℕ)) (mark : Mark) (place : ℕ) → IsMark ps mark → mark.start ≤ place → place ≤ length (concat ps)
    → length ps ≤ mark.index + 1 → IsInSegment ps mark place
found_last ps mark place is from within last = grind (arith, end_of_last)

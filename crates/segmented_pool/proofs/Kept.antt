-- A chain in segments after an edit.
use Rattle.segmented_pool.proofs.Common.{inserted, cut, Parts, part, IsMark, IsInSegment, IsKeptInSegments, Mark, ◌≡◌, ℕ, ◌+◌, ◌-◌, ◌<◌, ◌≤◌, List, length, take, set, ◌^◌, sym, ap, subst, ◌∙◌, arith, concat}
use Rattle.segmented_pool.proofs.Lists.{length-inserted, length-cut}
use Rattle.segmented_pool.proofs.Marks.{mark_after_set, mark_stays, inserted_at, cut_at, end_within}

-- another row of the same list, with the segments before the mark as they were
pub kept_same : (old new : Parts) (mark : Mark) (len spare : ℕ) → IsMark old.parts mark → len ≡ length (concat old.parts)
    → len + spare < 2 ^ 32 → concat new.parts ≡ concat old.parts → take mark.index new.parts ≡ take mark.index old.parts
    → mark.index < length new.parts → spare ≤ new.spare → IsKeptInSegments new mark len spare
kept_same old new mark len spare is counted fits joined before within enough = grind (arith, mark_stays)

module _ (old new : Parts) (last mark : Mark) (len spare : ℕ) (kept : IsKeptInSegments old last len spare) (is : IsMark old.parts mark)
  where
    pub list_pushed : (place value : ℕ) → IsInSegment old.parts mark place
        → new.parts ≡ set old.parts mark.index (inserted (part old.parts mark.index) (place - mark.start) value)
        → concat new.parts ≡ inserted (concat old.parts) place value
    list_pushed place value there edit =
        ap (λ (l : List (List ℕ)). concat l) edit ∙ inserted_at old.parts mark is place value there.from there.to

    pub kept_pushed : (place value : ℕ) → IsInSegment old.parts mark place → 0 < spare
        → new.parts ≡ set old.parts mark.index (inserted (part old.parts mark.index) (place - mark.start) value)
        → new.spare + 1 ≡ old.spare → IsKeptInSegments new mark (len + 1) (spare - 1)
    kept_pushed place value there some edit more =
        record {
          marked = subst (λ (l : List (List ℕ)). IsMark l mark) (sym edit) (mark_after_set old.parts mark is _);
          counted = omega (
            arith,
            kept.counted,
            length-inserted (concat old.parts) place value,
            ap (λ (l : List ℕ). length l) (list_pushed place value there edit),
          );
          kept_back = omega (arith, kept.kept_back, more);
          fits = omega (arith, kept.fits);
        }

    pub list_cut : (from to : ℕ) → mark.start ≤ from → from ≤ to → to ≤ mark.start + length (part old.parts mark.index)
        → new.parts ≡ set old.parts mark.index (cut (part old.parts mark.index) (from - mark.start) (to - mark.start))
        → concat new.parts ≡ cut (concat old.parts) from to
    list_cut from to first order le edit = ap (λ (l : List (List ℕ)). concat l) edit ∙ cut_at old.parts mark is from to first order le

    pub kept_cut : (from to gone : ℕ) → mark.start ≤ from → from + gone ≡ to → to ≤ mark.start + length (part old.parts mark.index)
        → new.parts ≡ set old.parts mark.index (cut (part old.parts mark.index) (from - mark.start) (to - mark.start))
        → new.spare ≡ old.spare + gone → IsKeptInSegments new mark (len - gone) (spare + gone)
    kept_cut from to gone first e le edit more =
        let ends : mark.start + length (part old.parts mark.index) ≤ length (concat old.parts) = end_within old.parts mark is in
        record {
          marked = subst (λ (l : List (List ℕ)). IsMark l mark) (sym edit) (mark_after_set old.parts mark is _);
          counted = omega (
            arith,
            kept.counted,
            length-cut (concat old.parts) from to (omega arith) (omega arith),
            ap (λ (l : List ℕ). length l) (list_cut from to first (omega arith) le edit),
          );
          kept_back = omega (arith, kept.kept_back, more);
          fits = omega (arith, kept.fits, kept.counted);
        }

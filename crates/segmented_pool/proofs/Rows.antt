-- Rows of chains, where a chain changes, comes or goes.
use Rattle.segmented_pool.proofs.Common.{under, list_under, lists_of, IsSegment, IsNameApart, AreSegments, Segment, ◌≡◌, ◌≢◌, ℕ, zero, suc, ◌<◌, List, [], ◌∷◌, length, set, get_or, Option, None, refl, sym, ap, subst, ◌∙◌, arith, insert, remove}
use Rattle.chain_pool.specs.declared.cells.CellName.{CellName}

-- each of these segments but that of one name has the list that it had
abbrev pub AreKept : List (Option (List ℕ)) → List (Option (List ℕ)) → ℕ → List Segment → Type 0
AreKept old new name [] = Unit {0}
AreKept old new name (s ∷ ss) = (s.chain.0 ≢ name → under new s.chain.0 ≡ under old s.chain.0) × AreKept old new name ss

module _ (old new : List (Option (List ℕ))) (name : ℕ) where
  pub kept_by_one : (ss : List Segment) → ((other : ℕ) → other ≢ name → under new other ≡ under old other) → AreKept old new name ss
  kept_by_one [] same = tt
  kept_by_one (s ∷ ss) same = (same s.chain.0, kept_by_one ss same)

  pub kept_by_two : (name' : ℕ) (ss : List Segment) → IsNameApart name' ss
      → ((other : ℕ) → other ≢ name → other ≢ name' → under new other ≡ under old other) → AreKept old new name ss
  kept_by_two name' [] apart same = tt
  kept_by_two name' (s ∷ ss) apart same =
      (λ ne. same s.chain.0 ne (λ e. apart.0 (sym e)), kept_by_two name' ss apart.1 same)

  stays : (ss : List Segment) (ps : List (List ℕ)) → IsNameApart name ss → AreKept old new name ss → AreSegments old ss ps
      → AreSegments new ss ps
  stays [] [] apart kept row = tt
  stays [] (p ∷ ps) apart kept row = row
  stays (s ∷ ss) [] apart kept row = row
  stays (s ∷ ss) (p ∷ ps) apart kept row =
      (record { has = kept.0 (λ e. apart.0 (sym e)) ∙ row.0.has; counted = row.0.counted }, row.1, stays ss ps apart.1 kept.1 row.2)

pub apart_at : (name : ℕ) (ss : List Segment) (k : ℕ) (d : Segment) → IsNameApart name ss → k < length ss → name ≢ (get_or ss k d).chain.0
apart_at name [] k d apart lt = absurd (omega arith)
apart_at name (s ∷ ss) zero d apart lt = apart.0
apart_at name (s ∷ ss) (suc k) d apart lt = apart_at name ss k d apart.1 (omega arith)

pub apart_set : (name : ℕ) (ss : List Segment) (k : ℕ) (s' : Segment) → IsNameApart name ss → name ≢ s'.chain.0
    → IsNameApart name (set ss k s')
apart_set name [] k s' apart ne = tt
apart_set name (s ∷ ss) zero s' apart ne = (ne, apart.1)
apart_set name (s ∷ ss) (suc k) s' apart ne = (apart.0, apart_set name ss k s' apart.1 ne)

apart_insert : (name : ℕ) (ss : List Segment) (k : ℕ) (s' : Segment) → IsNameApart name ss → name ≢ s'.chain.0
    → IsNameApart name (insert ss k s')
apart_insert name [] zero s' apart ne = (ne, tt)
apart_insert name [] (suc k) s' apart ne = (ne, tt)
apart_insert name (s ∷ ss) zero s' apart ne = (ne, apart)
apart_insert name (s ∷ ss) (suc k) s' apart ne = (apart.0, apart_insert name ss k s' apart.1 ne)

apart_remove : (name : ℕ) (ss : List Segment) (k : ℕ) → IsNameApart name ss → IsNameApart name (remove ss k)
apart_remove name [] zero apart = tt
apart_remove name [] (suc k) apart = tt
apart_remove name (s ∷ ss) zero apart = apart.1
apart_remove name (s ∷ ss) (suc k) apart = (apart.0, apart_remove name ss k apart.1)

-- the lists that are seen are those of the segments
pub parts_are : (lists : List (Option (List ℕ))) (ss : List Segment) (ps : List (List ℕ)) → AreSegments lists ss ps → lists_of lists ss ≡ ps
parts_are lists [] [] row = refl
parts_are lists [] (p ∷ ps) row = absurd row
parts_are lists (s ∷ ss) [] row = absurd row
parts_are lists (s ∷ ss) (p ∷ ps) row =
    let first : list_under lists s.chain.0 ≡ p = rw row.0.has refl in
    ap (λ (l : List ℕ). l ∷ lists_of lists ss) first ∙ ap (λ (l : List (List ℕ)). p ∷ l) (parts_are lists ss ps row.2)

pub segment_at : (lists : List (Option (List ℕ))) (ss : List Segment) (ps : List (List ℕ)) (k : ℕ) (d : Segment) → AreSegments lists ss ps
    → k < length ss → IsSegment lists (get_or ss k d) (get_or ps k [])
segment_at lists [] ps k d row lt = absurd (omega arith)
segment_at lists (s ∷ ss) [] k d row lt = absurd row
segment_at lists (s ∷ ss) (p ∷ ps) zero d row lt = row.0
segment_at lists (s ∷ ss) (p ∷ ps) (suc k) d row lt = segment_at lists ss ps k d row.2 (omega arith)

-- a name that no chain has is none of a segment
pub apart_from_fresh : (lists : List (Option (List ℕ))) (ss : List Segment) (ps : List (List ℕ)) (name : ℕ) → AreSegments lists ss ps
    → under lists name ≡ None → IsNameApart name ss
apart_from_fresh lists [] ps name row none = tt
apart_from_fresh lists (s ∷ ss) [] name row none = absurd row
apart_from_fresh lists (s ∷ ss) (p ∷ ps) name row none =
    (λ e. let both = sym none ∙ ap (λ (k : ℕ). under lists k) e ∙ row.0.has in cc, apart_from_fresh lists ss ps name row.2 none)

-- a segment changes
pub row_set : (old new : List (Option (List ℕ))) (ss : List Segment) (ps : List (List ℕ)) (k : ℕ) (d s' : Segment) (l : List ℕ)
    → AreSegments old ss ps → k < length ss → s'.chain ≡ (get_or ss k d).chain → IsSegment new s' l
    → AreKept old new s'.chain.0 ss → AreSegments new (set ss k s') (set ps k l)
row_set old new [] ps k d s' l row lt e is kept = absurd (omega arith)
row_set old new (s ∷ ss) [] k d s' l row lt e is kept = absurd row
row_set old new (s ∷ ss) (p ∷ ps) zero d s' l row lt e is kept =
    let apart : IsNameApart s'.chain.0 ss = subst (λ (n : ℕ). IsNameApart n ss) (sym (ap (λ (c : CellName). c.0) e)) row.1 in
    (is, apart, stays old new s'.chain.0 ss ps apart kept.1 row.2)
row_set old new (s ∷ ss) (p ∷ ps) (suc k) d s' l row lt e is kept =
    let other : s.chain.0 ≢ s'.chain.0 = λ same. apart_at s.chain.0 ss k d row.1 (omega arith) (same ∙ ap (λ (c : CellName). c.0) e) in (
      record { has = kept.0 other ∙ row.0.has; counted = row.0.counted },
      apart_set s.chain.0 ss k s' row.1 other,
      row_set old new ss ps k d s' l row.2 (omega arith) e is kept.1,
    )

-- a segment comes
pub row_insert : (lists : List (Option (List ℕ))) (ss : List Segment) (ps : List (List ℕ)) (k : ℕ) (s' : Segment) (l : List ℕ)
    → AreSegments lists ss ps → IsSegment lists s' l → IsNameApart s'.chain.0 ss → AreSegments lists (insert ss k s') (insert ps k l)
row_insert lists [] [] zero s' l row is apart = (is, tt, tt)
row_insert lists [] [] (suc k) s' l row is apart = (is, tt, tt)
row_insert lists [] (p ∷ ps) k s' l row is apart = absurd row
row_insert lists (s ∷ ss) [] k s' l row is apart = absurd row
row_insert lists (s ∷ ss) (p ∷ ps) zero s' l row is apart = (is, apart, row)
row_insert lists (s ∷ ss) (p ∷ ps) (suc k) s' l row is apart =
    (row.0, apart_insert s.chain.0 ss k s' row.1 (λ e. apart.0 (sym e)), row_insert lists ss ps k s' l row.2 is apart.1)

-- a segment goes
pub row_remove : (lists : List (Option (List ℕ))) (ss : List Segment) (ps : List (List ℕ)) (k : ℕ) → AreSegments lists ss ps
    → AreSegments lists (remove ss k) (remove ps k)
row_remove lists [] [] zero row = tt
row_remove lists [] [] (suc k) row = tt
row_remove lists [] (p ∷ ps) k row = absurd row
row_remove lists (s ∷ ss) [] k row = absurd row
row_remove lists (s ∷ ss) (p ∷ ps) zero row = row.2
row_remove lists (s ∷ ss) (p ∷ ps) (suc k) row = (row.0, apart_remove s.chain.0 ss k row.1, row_remove lists ss ps k row.2)

pub removed_apart : (lists : List (Option (List ℕ))) (ss : List Segment) (ps : List (List ℕ)) (k : ℕ) (d : Segment)
    → AreSegments lists ss ps
    → k < length ss → IsNameApart (get_or ss k d).chain.0 (remove ss k)
removed_apart lists [] ps k d row lt = absurd (omega arith)
removed_apart lists (s ∷ ss) [] k d row lt = absurd row
removed_apart lists (s ∷ ss) (p ∷ ps) zero d row lt = row.1
removed_apart lists (s ∷ ss) (p ∷ ps) (suc k) d row lt =
    (λ e. apart_at s.chain.0 ss k d row.1 (omega arith) (sym e), removed_apart lists ss ps k d row.2 (omega arith))

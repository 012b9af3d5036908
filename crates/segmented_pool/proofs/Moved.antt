-- Entries that go from one chain of a pool to another.
use Rattle.segmented_pool.proofs.Common.{list_under-is, Chains, under, IsUnder, IsEdit, list_under, inserted, cut, ◌≡◌, ◌≢◌, ℕ, ◌+◌, ◌-◌, ◌<◌, ◌≤◌, List, [], ◌++◌, length, take, drop, get_or, Option, Some, None, is_some, sym, ap, ◌∙◌, arith, common_steps, length-drop, get_or-drop, take-append-drop}
use Rattle.segmented_pool.proofs.Lists.{entry_behind_cut, cut_again, inserted_last}

-- so many entries from a place of a chain on lie in another chain, which was none before
pub record IsMoved (old new : Chains) (name taken place moved : ℕ) : Type 0 where
  pub was : under old.lists taken ≡ None
  pub apart : name ≢ taken
  pub here : under new.lists name ≡ Some (cut (list_under old.lists name) place (place + moved))
  pub there : under new.lists taken ≡ Some (take moved (drop place (list_under old.lists name)))
  pub others : (other : ℕ) → other ≢ name → other ≢ taken → under new.lists other ≡ under old.lists other
  pub spare : new.spare + 1 ≡ old.spare

pub live_from : (lists : List (Option (List ℕ))) (name : ℕ) (list : List ℕ) → under lists name ≡ Some list → IsUnder lists name
live_from lists name list e = ap (λ (o : Option (List ℕ)). is_some o) e

pub moved_none : (old new : Chains) (name taken place : ℕ) → IsUnder old.lists name → under old.lists taken ≡ None
    → IsEdit old.lists new.lists taken (Some []) → new.spare + 1 ≡ old.spare → IsMoved old new name taken place 0
moved_none old new name taken place is_live none edit spare =
    let list = list_under old.lists name in
    let same : place + 0 ≡ place = omega arith in
    let all : take place list ++ drop (place + 0) list ≡ list = ap (λ (k : ℕ). take place list ++ drop k list) same
    ∙ take-append-drop place list in grind arith

module _ (old new : Chains) (name taken place moved : ℕ) (is : IsMoved old new name taken place moved) where
  abbrev list : List ℕ
  list = list_under old.lists name

  pub moved_more : (read mid after : Chains) (value : ℕ) → read ≡ new → place ≤ length list → moved < length list - place
      → value ≡ get_or (list_under new.lists name) place 0
      → IsEdit read.lists mid.lists name (Some (cut (list_under read.lists name) place (place + 1)))
      → mid.spare + place ≡ read.spare + (place + 1)
      → IsEdit mid.lists after.lists taken (Some (inserted (list_under mid.lists taken) moved value))
      → after.spare + 1 ≡ mid.spare
      → IsMoved old after name taken place (moved + 1)
  moved_more read mid after value same within lt reads first spare second spare' =
      let other : taken ≢ name = λ e. is.apart (sym e) in
      let mid_taken : under mid.lists taken ≡ Some (take moved (drop place list)) = grind (arith, under) in
      let mid_name : under mid.lists name ≡ Some (cut list place (place + moved + 1)) =
      first.here ∙ ap (λ (v : Chains). Some (cut (list_under v.lists name) place (place + 1))) same
      ∙ ap (λ (l : List ℕ). Some (cut l place (place + 1))) (list_under-is new.lists name _ is.here)
      ∙ ap (λ (l : List ℕ). Some l) (cut_again list place within (place + moved) 1) in
      let entry : get_or (drop place list) moved 0 ≡ value =
      sym (reads ∙ ap (λ (l : List ℕ). get_or l place 0) (list_under-is new.lists name _ is.here)
      ∙ entry_behind_cut list place within (place + moved) ∙ sym (get_or-drop place list moved 0)) in
      let sum : place + moved + 1 ≡ place + (moved + 1) = omega arith in
      record {
        was = is.was;
        apart = is.apart;
        here = second.others name is.apart ∙ mid_name ∙ ap (λ (k : ℕ). Some (cut list place k)) sum;
        there = second.here ∙ ap (λ (l : List ℕ). Some (inserted l moved value)) (list_under-is mid.lists taken _ mid_taken)
            ∙ ap (λ (l : List ℕ). Some l) (inserted_last (drop place list) moved value (omega (arith, length-drop place list)) entry);
        others = λ k a b. second.others k b ∙ first.others k a ∙ ap (λ (v : Chains). under v.lists k) same ∙ is.others k a b;
        spare = omega (arith, is.spare, ap (λ (v : Chains). v.spare) same);
      }

-- What is seen of chains at their places, and edit after edit.
use Rattle.chain_pool.proofs.Common.{Chains, under, IsUnder, IsEdit, IsAlike, list_under, inserted, cut, Parted, PartedChains, joined, joined_option, joined_lists, parted_under, parted_at, pushed_before, cut_here, ◌≡◌, ◌≢◌, ◌⊎◌, ℕ, ◌+◌, ◌-◌, List, [], ◌++◌, length, reverse, take, drop, Option, Some, None, refl, sym, ap, ◌∙◌, arith, inl, inr, cases_eq, common_steps, reverse-reverse, length-map, ext_get_or, take-append-drop, drop-drop, IsSome}
use Rattle.chain_pool.proofs.Soundness.{parted_under-is, under-joined, IsEdit-joined}

option_cases : (found : Option Parted) → (found ≡ None) ⊎ ((parted : Parted) × (found ≡ Some parted))
option_cases None = inl refl
option_cases (Some parted) = inr (parted, refl)

pub list_under-is : (lists : List (Option (List ℕ))) (name : ℕ) (list : List ℕ) → under lists name ≡ Some list
    → list_under lists name ≡ list
list_under-is lists name list e = rw e refl

list_under-none : (lists : List (Option (List ℕ))) (name : ℕ) → under lists name ≡ None → list_under lists name ≡ []
list_under-none lists name e = rw e refl

parted_under-none : (chains : List (Option Parted)) (name : ℕ) → under chains name ≡ None
    → parted_under chains name ≡ record { before = []; behind = [] }
parted_under-none chains name e = rw e refl

-- the list of a chain is what its two sides have
pub list_under-joined : (chains : List (Option Parted)) (name : ℕ)
    → list_under (joined_lists chains) name ≡ joined (parted_under chains name)
list_under-joined chains name =
    grind (arith, option_cases, under, list_under-none, under-joined, joined, parted_under-none, list_under-is, parted_under-is)

pub list_in : (chains : List (Option Parted)) (lists : List (Option (List ℕ))) (name : ℕ) → joined_lists chains ≡ lists
    → list_under lists name ≡ joined (parted_under chains name)
list_in chains lists name e = ap (λ (now : List (Option (List ℕ))). list_under now name) (sym e) ∙ list_under-joined chains name

pub edit_then_alike : {A : Type 0} (old mid new : List (Option A)) (name : ℕ) (thing : Option A) → IsEdit old mid name thing
    → IsAlike mid new → IsEdit old new name thing
edit_then_alike old mid new name thing edit alike = grind arith

pub alike_then_edit : {A : Type 0} (old mid new : List (Option A)) (name : ℕ) (thing : Option A) → IsAlike old mid
    → IsEdit mid new name thing → IsEdit old new name thing
alike_then_edit old mid new name thing alike edit = grind arith

pub edit_twice : {A : Type 0} (old mid new : List (Option A)) (name : ℕ) (first second : Option A) → IsEdit old mid name first
    → IsEdit mid new name second → IsEdit old new name second
edit_twice old mid new name first second before edit = grind arith

-- what is seen of an edit of a chain at its place
pub seen_edit : (old new : List (Option Parted)) (lists : List (Option (List ℕ))) (name : ℕ) (thing : Parted) (list : List ℕ)
    → joined_lists old ≡ lists → IsEdit old new name (Some thing) → joined thing ≡ list
    → IsEdit lists (joined_lists new) name (Some list)
seen_edit old new lists name thing list e edit same = grind (arith, IsEdit-joined)

pub joined-pushed : (list : List ℕ) (place value : ℕ) → joined (pushed_before (parted_at list place) value) ≡ inserted list place value
joined-pushed list place value = grind (arith, common_steps)

-- a list from which some entries behind a place were cut
abbrev pub cut_at : List ℕ → ℕ → ℕ → Parted
cut_at list from to = record { before = reverse (take from list); behind = drop to list }

pub joined-cut_at : (list : List ℕ) (from to : ℕ) → joined (cut_at list from to) ≡ cut list from to
joined-cut_at list from to = ap (λ (l : List ℕ). l ++ drop to list) (reverse-reverse (take from list))

pub cut_here-cut_at : (list : List ℕ) (from to : ℕ) → cut_here (cut_at list from to) ≡ cut_at list from (to + 1)
cut_here-cut_at list from to = ap (λ (l : List ℕ). record { before = reverse (take from list); behind = l }) (drop-drop 1 to list)

-- lists of the same length that have the same under each name are equal
pub same_lists_seen : (old new : List (Option (List ℕ))) (name : ℕ) (list : List ℕ) → length new ≡ length old
    → under old name ≡ Some list → IsEdit old new name (Some list) → new ≡ old
same_lists_seen old new name list e was edit =
    ext_get_or None new old e (λ k lt. elim (cases_eq k name) [
      | inl same ↦ ap (under new) same ∙ edit.here ∙ sym (ap (under old) same ∙ was)
      | inr ne ↦ edit.others k ne
    ])

-- so many entries of a chain are cut
pub record IsCutTo (pool : Chains) (cells : PartedChains) (name from to : ℕ) : Type 0 where
  pub here : under cells.chains name ≡ Some (cut_at (list_under pool.lists name) from to)
  pub others : (other : ℕ) → other ≢ name → under (joined_lists cells.chains) other ≡ under pool.lists other
  pub spare : cells.spare + from ≡ pool.spare + to
  pub names : length cells.chains ≡ length pool.lists

pub IsCutTo-none : (pool : Chains) (old new : PartedChains) (name from : ℕ) → joined_lists old.chains ≡ pool.lists → old.spare ≡ pool.spare
    → IsEdit old.chains new.chains name (Some (parted_at (joined (parted_under old.chains name)) from))
    → length new.chains ≡ length old.chains → new.spare ≡ old.spare
    → IsCutTo pool new name from from
IsCutTo-none pool old new name from lists spare edit names same = grind (arith, common_steps, list_in, under-joined, under)

pub IsCutTo-more : (pool : Chains) (mid new : PartedChains) (name from to : ℕ) → IsCutTo pool mid name from to
    → IsEdit mid.chains new.chains name (Some (cut_here (parted_under mid.chains name)))
    → length new.chains ≡ length mid.chains → new.spare ≡ mid.spare + 1
    → IsCutTo pool new name from (to + 1)
IsCutTo-more pool mid new name from to so_far edit names spare = record {
  here = grind (arith, parted_under-is, cut_here-cut_at);
  others = λ other ne. grind (arith, under-joined);
  spare = omega (arith, spare, so_far.spare);
  names = names ∙ so_far.names;
}

pub IsCutTo-done : (pool : Chains) (cells : PartedChains) (name from to : ℕ) → IsCutTo pool cells name from to
    → IsEdit pool.lists (joined_lists cells.chains) name (Some (cut (list_under pool.lists name) from to))
IsCutTo-done pool cells name from to done = grind (arith, under-joined, joined-cut_at)

-- what is behind the place
pub IsCutTo-behind : (pool : Chains) (cells : PartedChains) (name from to : ℕ) → IsCutTo pool cells name from to
    → length (parted_under cells.chains name).behind ≡ length (list_under pool.lists name) - to
IsCutTo-behind pool cells name from to so_far = grind (arith, common_steps, parted_under-is)

list_some : (found : Option (List ℕ)) → IsSome found → (list : List ℕ) × (found ≡ Some list)
list_some (Some list) live = (list, refl)
list_some None live = absurd (cc)

pub list_is : (lists : List (Option (List ℕ))) (name : ℕ) → IsUnder lists name → under lists name ≡ Some (list_under lists name)
list_is lists name live = grind (arith, list_some, under, list_under-is)

-- a cut of no entries leaves all that is seen
pub IsCutTo-nothing : (pool : Chains) (cells : PartedChains) (name from to : ℕ) → IsCutTo pool cells name from to → from ≡ to
    → IsUnder pool.lists name
    → record { lists = joined_lists cells.chains; spare = cells.spare } ≡ pool
IsCutTo-nothing pool cells name from to done e live =
    let list = list_under pool.lists name in
    let same : cut list from to ≡ list = ap (λ (n : ℕ). cut list from n) (sym e) ∙ take-append-drop from list in
    let edit : IsEdit pool.lists (joined_lists cells.chains) name (Some list) = grind (arith, IsCutTo-done) in
    let lists : joined_lists cells.chains ≡ pool.lists =
    same_lists_seen pool.lists (joined_lists cells.chains) name list (length-map cells.chains joined_option ∙ done.names)
    (list_is pool.lists name live) edit in
    let spare : cells.spare ≡ pool.spare = omega (arith, done.spare, e) in grind arith

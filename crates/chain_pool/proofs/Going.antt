-- The way to a place: the two stacks of a chain are kept at hand, and its head is written at the end.
use Rattle.chain_pool.proofs.Common.{under, IsUnder, IsEdit, Parted, PartedChains, joined, parted_under, parted_at, chains_of, IsSound, IsEntry, advanced, retreated, Cell, Head, Entry, Stack, ◌≡◌, ◌≢◌, ℕ, ◌+◌, ◌-◌, ◌<◌, ◌^◌, List, length, set, Option, Some, None, refl, sym, ap, subst, ◌∙◌, arith, common_steps, get_or-set_same, get_or-set_other, length-set, length-map, set-set, set_comm}
use Rattle.chain_pool.proofs.Edits.{Edited, advance_edits, retreat_edits}
use Rattle.chain_pool.proofs.Places.{SameLists, SameLists-refl, SameLists-more, SameLists-done, joined-advanced, joined-retreated}
use Rattle.chain_pool.proofs.Rewrites.{within}
use Rattle.chain_pool.proofs.Soundness.{few, length-joined}
use Rattle.chain_pool.proofs.Writes.{HasHead, left_entry, right_entry, before_len, behind_len}

-- the cells as they are once the head is written
abbrev pub with_head : List (Option Cell) → ℕ → Stack → Stack → List (Option Cell)
with_head slots name left right = set slots name (Some (Head left right))

abbrev pub seen_with : List (Option Cell) → ℕ → Stack → Stack → ℕ → ℕ → PartedChains
seen_with slots name left right spare free = record { chains = chains_of (with_head slots name left right); spare = spare; free = free }

-- on the way: once the head is written, the cells are sound, and all lists are what they were
pub record IsGoing (old : PartedChains) (slots : List (Option Cell)) (capacity : ℕ) (free : Stack) (spare name : ℕ) (left right : Stack)
    : Type 0 where
  pub head : HasHead (under slots name)
  pub sound : IsSound (with_head slots name left right) capacity free spare
  pub same : SameLists old (seen_with slots name left right spare free.len) name

pub set-own : (slots : List (Option Cell)) (k : ℕ) (cell : Cell) → under slots k ≡ Some cell → set slots k (Some cell) ≡ slots
set-own slots k cell e = grind (arith, common_steps, under, within)

pub IsGoing-start : (old : PartedChains) (slots : List (Option Cell)) (capacity : ℕ) (free : Stack) (spare name : ℕ) (left right : Stack)
    → IsSound slots capacity free spare → record { chains = chains_of slots; spare = spare; free = free.len } ≡ old
    → under slots name ≡ Some (Head left right) → IsUnder old.chains name
    → IsGoing old slots capacity free spare name left right
IsGoing-start old slots capacity free spare name left right sound seen head live = grind (arith, set-own, SameLists-refl)

module _ (old : PartedChains) (slots : List (Option Cell)) (capacity : ℕ) (free : Stack) (spare name : ℕ) (left right : Stack)
    (going : IsGoing old slots capacity free spare name left right) where
  pub at_name : under (with_head slots name left right) name ≡ Some (Head left right)
  at_name = get_or-set_same slots name _ None (within slots name _ going.head.is)

  pub before_now : length (parted_under (chains_of (with_head slots name left right)) name).before ≡ left.len
  before_now =
      before_len (with_head slots name left right) capacity free spare going.sound name left right at_name
      (chains_of (with_head slots name left right)) refl

  pub behind_now : length (parted_under (chains_of (with_head slots name left right)) name).behind ≡ right.len
  behind_now =
      behind_len (with_head slots name left right) capacity free spare going.sound name left right at_name
      (chains_of (with_head slots name left right)) refl

  -- all entries
  pub both_now : left.len + right.len ≡ length (joined (parted_under old.chains name))
  both_now =
      omega (
        arith,
        before_now,
        behind_now,
        length-joined (parted_under (chains_of (with_head slots name left right)) name),
        ap (λ (l : List ℕ). length l) going.same.list,
      )

  pub few_now : left.len + right.len + 1 + spare < 2 ^ 32
  few_now = few (with_head slots name left right) capacity free spare going.sound name left right at_name

  -- an entry is where no head is written
  off_head : (k : ℕ) → IsEntry (under (with_head slots name left right) k) → k ≢ name
  off_head k entry same = subst IsEntry (ap (under (with_head slots name left right)) same ∙ at_name) entry

  here_too : (k : ℕ) → k ≢ name → under (with_head slots name left right) k ≡ under slots k
  here_too k ne = get_or-set_other slots name k _ None ne

  pub right_top : 0 < right.len → IsEntry (under slots right.top)
  right_top some =
      let entry = right_entry (with_head slots name left right) capacity free spare going.sound name left right at_name some in
      subst IsEntry (here_too right.top (off_head right.top entry)) entry

  pub left_top : 0 < left.len → IsEntry (under slots left.top)
  left_top some =
      let entry = left_entry (with_head slots name left right) capacity free spare going.sound name left right at_name some in
      subst IsEntry (here_too left.top (off_head left.top entry)) entry

  -- a write of an entry, and then of the head
  head_last : (x : ℕ) (entry : Cell) (l r : Stack) → x ≢ name
      → set (set (with_head slots name left right) x (Some entry)) name (Some (Head l r)) ≡ with_head (set slots x (Some entry)) name l r
  head_last x entry l r ne =
      ap (λ (cells : List (Option Cell)). set cells name (Some (Head l r))) (sym (set_comm slots x name (Some entry) (Some
      (Head left right)) ne))
      ∙ set-set (set slots x (Some entry)) name (Some (Head left right)) (Some (Head l r))

  head_kept : (x : ℕ) (entry : Cell) → x ≢ name → HasHead (under (set slots x (Some entry)) name)
  head_kept x entry ne = grind (arith, common_steps)

  -- one entry goes over to the other side
  goes : (x link value : ℕ) (l r : Stack) (parted : Parted) → x ≢ name
      → Edited (with_head slots name left right)
      (set (set (with_head slots name left right) x (Some (Entry link value))) name (Some (Head l r))) capacity free spare name parted
      → joined parted ≡ joined (parted_under (chains_of (with_head slots name left right)) name)
      → IsGoing old (set slots x (Some (Entry link value))) capacity free spare name l r
  goes x link value l r parted ne edits list =
      let new : List (Option Cell) = set slots x (Some (Entry link value)) in
      let edited : Edited (with_head slots name left right) (with_head new name l r) capacity free spare name parted =
      subst (λ (cells : List (Option Cell)). Edited (with_head slots name left right) cells capacity free spare name parted)
      (head_last x (Entry link value) l r ne) edits in
      record {
        head = head_kept x (Entry link value) ne;
        sound = edited.sound;
        same = SameLists-more old (seen_with slots name left right spare free.len) (seen_with new name l r spare free.len) name parted
            going.same edited.edit list
            (length-map (with_head new name l r) _ ∙ length-set new name _ ∙ length-set slots x _
            ∙ sym (length-map (with_head slots name left right) _ ∙ length-set slots name _)) refl refl;
      }

  pub going_on : (next value : ℕ) → under slots right.top ≡ Some (Entry next value) → 0 < right.len
      → IsGoing old (set slots right.top (Some (Entry left.top value))) capacity free spare name
      (record { top = right.top; len = left.len + 1 }) (record { top = next; len = right.len - 1 })
  going_on next value here some =
      let now : List (Option Cell) = with_head slots name left right in
      let ne = off_head right.top (right_entry now capacity free spare going.sound name left right at_name some) in
      goes right.top left.top value (record { top = right.top; len = left.len + 1 }) (record { top = next; len = right.len - 1 })
      (advanced (parted_under (chains_of now) name)) ne
      (advance_edits now capacity free spare going.sound name left right at_name next value (here_too right.top ne ∙ here) some)
      (joined-advanced (parted_under (chains_of now) name))

  pub going_back : (next value : ℕ) → under slots left.top ≡ Some (Entry next value) → 0 < left.len
      → IsGoing old (set slots left.top (Some (Entry right.top value))) capacity free spare name
      (record { top = next; len = left.len - 1 }) (record { top = left.top; len = right.len + 1 })
  going_back next value here some =
      let now : List (Option Cell) = with_head slots name left right in
      let ne = off_head left.top (left_entry now capacity free spare going.sound name left right at_name some) in
      goes left.top right.top value (record { top = next; len = left.len - 1 }) (record { top = left.top; len = right.len + 1 })
      (retreated (parted_under (chains_of now) name)) ne
      (retreat_edits now capacity free spare going.sound name left right at_name next value (here_too left.top ne ∙ here) some)
      (joined-retreated (parted_under (chains_of now) name))

  pub gone : (place : ℕ) → left.len ≡ place
      → IsEdit old.chains (chains_of (with_head slots name left right)) name (Some (parted_at (joined
      (parted_under old.chains name)) place))
  gone place e = SameLists-done old (seen_with slots name left right spare free.len) name place going.same (before_now ∙ e)

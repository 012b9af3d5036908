-- What the functions over cells know of the slab that they write, and of the chain that they are given.
use Rattle.chain_pool.proofs.Common.{under, IsUnder, Parted, Memory, Owner, Free, Left, Right, memory_of, parted_by, parted_under, chains_of, stack_of, left_of, right_of, IsSound, IsEntry, values, Cell, Head, Entry, Stack, ◌≡◌, ℕ, ◌<◌, List, length, set, Option, Some, None, refl, sym, ap, subst, ◌∙◌, arith, common_steps, IsSome}
use Rattle.slab.specs.Slab.{Slab, with_value}
use Rattle.chain_pool.proofs.Lookups.{under-map}
use Rattle.chain_pool.proofs.Rewrites.{chain_at_head}
use Rattle.chain_pool.proofs.Soundness.{parted_under-is, length-left, length-right}
use Rattle.chain_pool.proofs.Stacks.{IsOwned-top}
use Rattle.chain_pool.proofs.Transfers.{content}

-- a slab after two writes
pub record Written (new old : Slab Cell) (now : List (Option Cell)) : Type 0 where
  pub slots : new.slots ≡ now
  pub capacity : new.capacity ≡ old.capacity

pub once_written : (old new : Slab Cell) (x : ℕ) (cell : Cell) → new ≡ with_value old x cell → Written new old (set old.slots x (Some cell))
once_written old new x cell e = grind arith

pub twice_written : (old mid new : Slab Cell) (x c : ℕ) (cell other : Cell) → mid ≡ with_value old x cell → new ≡ with_value mid c other
    → Written new old (set (set old.slots x (Some cell)) c (Some other))
twice_written old mid new x c cell other first second = grind arith

module _ (slots : List (Option Cell)) (capacity : ℕ) (free : Stack) (spare : ℕ) (sound : IsSound slots capacity free spare) where
  top_entry : (s : Owner) → 0 < (stack_of (memory_of slots) free s).len → IsEntry (under slots (stack_of (memory_of slots) free s).top)
  top_entry s some =
      let top = IsOwned-top (memory_of slots) sound.owners s _ _ some (sound.stacks s) in grind arith

  pub free_entry : 0 < free.len → IsEntry (under slots free.top)
  free_entry some = top_entry Free some

  side_entry : (s : Owner) (st : Stack) → stack_of (memory_of slots) free s ≡ st → 0 < st.len → IsEntry (under slots st.top)
  side_entry s st is some =
      subst (λ (there : Stack). IsEntry (under slots there.top)) is
      (top_entry s (omega (arith, some, ap (λ (there : Stack). there.len) is)))

  module _ (c : ℕ) (l r : Stack) (head : under slots c ≡ Some (Head l r)) where
    pub left_entry : 0 < l.len → IsEntry (under slots l.top)
    left_entry some = side_entry (Left c) l (ap left_of head) some

    pub right_entry : 0 < r.len → IsEntry (under slots r.top)
    right_entry some = side_entry (Right c) r (ap right_of head) some

    parted_here : (chains : List (Option Parted)) → chains_of slots ≡ chains
        → parted_under chains c
        ≡ record { before = content (memory_of slots) free (Left c); behind = content (memory_of slots) free (Right c) }
    parted_here chains e = grind (arith, common_steps, parted_under-is, chain_at_head)

    pub before_len : (chains : List (Option Parted)) → chains_of slots ≡ chains → length (parted_under chains c).before ≡ l.len
    before_len chains e =
        ap (λ (p : Parted). length p.before) (parted_here chains e) ∙ length-left slots capacity free spare sound c l r head

    pub behind_len : (chains : List (Option Parted)) → chains_of slots ≡ chains → length (parted_under chains c).behind ≡ r.len
    behind_len chains e =
        ap (λ (p : Parted). length p.behind) (parted_here chains e) ∙ length-right slots capacity free spare sound c l r head

    pub behind_is : (chains : List (Option Parted)) → chains_of slots ≡ chains
        → (parted_under chains c).behind ≡ values (memory_of slots) r.len r.top
    behind_is chains e = grind (arith, common_steps)

-- the head of a chain that is live
pub record HasHead (cell : Option Cell) : Type 0 where
  pub left : Stack
  pub right : Stack
  pub is : cell ≡ Some (Head left right)

headed : (memory : Memory) (cell : Option Cell) → IsSome (parted_by memory cell) → HasHead cell
headed memory (Some (Head left right)) live = record { left = left; right = right; is = refl }
headed memory (Some (Entry next value)) live = absurd (cc)
headed memory None live = absurd (cc)

pub head_of : (slots : List (Option Cell)) (chains : List (Option Parted)) (name : ℕ) → chains_of slots ≡ chains → IsUnder chains name
    → HasHead (under slots name)
head_of slots chains name same live = grind (arith, headed, under, under-map)

-- What chains are after the write of one cell, or of an entry and a head.
use Rattle.chain_pool.proofs.Common.{under, Parted, Memory, Left, Right, memory_of, parted_by, chains_of, left_of, right_of, Cell, Head, Entry, Stack, ◌≡◌, ◌≢◌, ℕ, ◌<◌, List, length, set, Option, Some, None, refl, sym, ap, ◌∙◌, arith, common_steps, get_or_past}
use Rattle.chain_pool.proofs.Lookups.{under-map}
use Rattle.chain_pool.proofs.Transfers.{content, content_of}

-- a chain by the values of its stacks, where the cell is a head
abbrev pub parted_with : Option Cell → List ℕ → List ℕ → Option Parted
parted_with (Some (Head left right)) before behind = Some (record { before = before; behind = behind })
parted_with (Some (Entry next value)) before behind = None
parted_with None before behind = None

by_contents : (h : Memory) (cell : Option Cell)
    → parted_by h cell ≡ parted_with cell (content_of h (left_of cell)) (content_of h (right_of cell))
by_contents h (Some (Head left right)) = refl
by_contents h (Some (Entry next value)) = refl
by_contents h None = refl

-- the chain under a name is what its two stacks have
pub chain_by_contents : (slots : List (Option Cell)) (free : Stack) (k : ℕ)
    → under (chains_of slots) k
    ≡ parted_with (under slots k) (content (memory_of slots) free (Left k)) (content (memory_of slots) free (Right k))
chain_by_contents slots free k = under-map (parted_by (memory_of slots)) refl slots k ∙ by_contents (memory_of slots) (under slots k)

pub chain_at_head : (slots : List (Option Cell)) (free : Stack) (c : ℕ) (l r : Stack) → under slots c ≡ Some (Head l r)
    → under (chains_of slots) c
    ≡ Some (record { before = content (memory_of slots) free (Left c); behind = content (memory_of slots) free (Right c) })
chain_at_head slots free c l r e = grind (arith, common_steps, chain_by_contents)

-- chains stay where heads stay and their stacks keep their values
pub chain_stays : (slots slots' : List (Option Cell)) (free free' : Stack) (k : ℕ)
    → ((before behind : List ℕ) → parted_with (under slots' k) before behind ≡ parted_with (under slots k) before behind)
    → content (memory_of slots') free' (Left k) ≡ content (memory_of slots) free (Left k)
    → content (memory_of slots') free' (Right k) ≡ content (memory_of slots) free (Right k)
    → under (chains_of slots') k ≡ under (chains_of slots) k
chain_stays slots slots' free free' k kind left right =
    chain_by_contents slots' free' k
    ∙ kind (content (memory_of slots') free' (Left k)) (content (memory_of slots') free' (Right k))
    ∙ ap (λ (l : List ℕ). parted_with (under slots k) l (content (memory_of slots') free' (Right k))) left
    ∙ ap (parted_with (under slots k) (content (memory_of slots) free (Left k))) right
    ∙ sym (chain_by_contents slots free k)

-- a key that finds something is a place of the list
pub within : (slots : List (Option Cell)) (k : ℕ) (cell : Cell) → under slots k ≡ Some cell → k < length slots
within slots k cell e = grind (arith, get_or_past)

module _ (slots : List (Option Cell)) (x c next v link v' : ℕ) (l r l' r' : Stack)
    (here : under slots x ≡ Some (Entry next v)) (head : under slots c ≡ Some (Head l r)) where
  abbrev pub rewritten : List (Option Cell)
  rewritten = set (set slots x (Some (Entry link v'))) c (Some (Head l' r'))

  pub apart : x ≢ c
  apart e = let same = sym here ∙ ap (under slots) e ∙ head in cc

  pub at_head : under rewritten c ≡ Some (Head l' r')
  at_head = grind (arith, common_steps, within)

  pub kinds_stay : (k : ℕ) → k ≢ c → (before behind : List ℕ)
      → parted_with (under rewritten k) before behind ≡ parted_with (under slots k) before behind
  kinds_stay k nc before behind = grind (arith, common_steps, under)

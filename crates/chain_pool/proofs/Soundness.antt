-- How the numbers of a pool stay sound.
use Rattle.chain_pool.proofs.Common.{under, IsEdit, IsAlike, cells_of, cells_in, Parted, Left, Right, memory_of, joined, joined_option, joined_lists, parted_under, chains_of, left_of, right_of, IsSound, Cell, Head, Stack, ◌≡◌, ℕ, ◌+◌, ◌<◌, ◌^◌, List, length, reverse, set, count_by, is_some, Option, Some, refl, sym, ap, ◌∙◌, arith, length-append, common_steps, length-reverse}
use Rattle.chain_pool.proofs.Lookups.{under-map, cells_in-edit, cells_in-alike, cells_of-le}
use Rattle.chain_pool.proofs.Rewrites.{within, chain_at_head}
use Rattle.chain_pool.proofs.Stacks.{length-values}
use Rattle.chain_pool.proofs.Transfers.{content}

-- a cell that is written over leaves the number of cells
pub count_by-set : (slots : List (Option Cell)) (k : ℕ) (old new : Cell) → under slots k ≡ Some old
    → count_by is_some (set slots k (Some new)) ≡ count_by is_some slots
count_by-set slots k old new e = grind (arith, common_steps, is_some, within)

pub length-joined : (parted : Parted) → length (joined parted) ≡ length parted.before + length parted.behind
length-joined parted = omega (arith, length-append (reverse parted.before) parted.behind, length-reverse parted.before)

pub under-joined : (chains : List (Option Parted)) (k : ℕ) → under (joined_lists chains) k ≡ joined_option (under chains k)
under-joined chains k = under-map joined_option refl chains k

pub IsEdit-joined : (old new : List (Option Parted)) (name : ℕ) (thing : Option Parted) → IsEdit old new name thing
    → IsEdit (joined_lists old) (joined_lists new) name (joined_option thing)
IsEdit-joined old new name thing edit = grind (arith, under-joined)

pub IsAlike-joined : (old new : List (Option Parted)) → IsAlike old new → IsAlike (joined_lists old) (joined_lists new)
IsAlike-joined old new alike k = under-joined new k ∙ ap joined_option (alike k) ∙ sym (under-joined old k)

-- the cells of all chains after an edit of one
pub cells_in-edit_joined : (old new : List (Option Parted)) (name : ℕ) (thing : Option Parted) → IsEdit old new name thing
    → cells_in (joined_lists new) + cells_of (joined_option (under old name))
    ≡ cells_in (joined_lists old) + cells_of (joined_option thing)
cells_in-edit_joined old new name thing edit =
    ap (λ (o : Option (List ℕ)). cells_in (joined_lists new) + cells_of o) (sym (under-joined old name))
    ∙ cells_in-edit (joined_lists old) (joined_lists new) name (joined_option thing) (IsEdit-joined old new name thing edit)

pub cells_in-alike_joined : (old new : List (Option Parted)) → IsAlike old new → cells_in (joined_lists new) ≡ cells_in (joined_lists old)
cells_in-alike_joined old new alike = cells_in-alike (joined_lists old) (joined_lists new) (IsAlike-joined old new alike)

-- one more than the entries of a chain that is live
pub cells_of-parted : (thing : Option Parted) (parted : Parted) → thing ≡ Some parted
    → cells_of (joined_option thing) ≡ length parted.before + length parted.behind + 1
cells_of-parted thing parted e = grind (arith, length-joined)

pub parted_under-is : (chains : List (Option Parted)) (name : ℕ) (parted : Parted) → under chains name ≡ Some parted
    → parted_under chains name ≡ parted
parted_under-is chains name parted e = rw e refl

module _ (slots : List (Option Cell)) (capacity : ℕ) (free : Stack) (spare : ℕ) (sound : IsSound slots capacity free spare)
    (c : ℕ) (l r : Stack) (head : under slots c ≡ Some (Head l r)) where
  pub length-left : length (content (memory_of slots) free (Left c)) ≡ l.len
  length-left =
      length-values (memory_of slots) sound.owners (Left c) _ _ (sound.stacks (Left c))
      ∙ ap (λ (cell : Option Cell). (left_of cell).len) head

  pub length-right : length (content (memory_of slots) free (Right c)) ≡ r.len
  length-right =
      length-values (memory_of slots) sound.owners (Right c) _ _ (sound.stacks (Right c))
      ∙ ap (λ (cell : Option Cell). (right_of cell).len) head

  pub cells_here : cells_of (joined_option (under (chains_of slots) c)) ≡ l.len + r.len + 1
  cells_here =
      omega (
        arith,
        cells_of-parted (under (chains_of slots) c) _ (chain_at_head slots free c l r head),
        length-left,
        length-right,
      )

  -- all entries of one chain, and all spare cells
  pub few : l.len + r.len + 1 + spare < 2 ^ 32
  few =
      omega (
        arith,
        cells_here,
        sound.fits,
        cells_of-le (joined_lists (chains_of slots)) c,
        ap cells_of (under-joined (chains_of slots) c),
      )

-- A cell more for the free ones, a chain that starts and a chain that goes.
use Rattle.chain_pool.proofs.Common.{under, IsEdit, IsAlike, cells_of, Parted, Left, Right, memory_of, joined_option, chains_of, left_of, right_of, no_cells, IsSound, values, Cell, Head, Entry, Stack, ◌≡◌, ◌≢◌, ℕ, ◌+◌, ◌-◌, ◌<◌, List, [], set, count_by, is_some, Option, Some, None, refl, sym, ap, ◌∙◌, inl, inr, arith, cases_eq, get_or-set_same, get_or-set_other}
use Rattle.chain_pool.proofs.Rewrites.{parted_with, chain_by_contents, chain_at_head, chain_stays, within}
use Rattle.chain_pool.proofs.Singles.{Kept, Adds, added, Takes, taken}
use Rattle.chain_pool.proofs.Soundness.{count_by-set, cells_in-edit_joined, cells_in-alike_joined, cells_of-parted, cells_here}
use Rattle.chain_pool.proofs.Stacks.{values-none}
use Rattle.chain_pool.proofs.Transfers.{content}

-- chains but that of one cell stay, where all stacks but that of the free cells do
others_stay : (slots slots' : List (Option Cell)) (free free' : Stack) (x : ℕ) → Kept (memory_of slots) (memory_of slots') free free'
    → ((k : ℕ) → k ≢ x → under slots' k ≡ under slots k)
    → (k : ℕ) → k ≢ x → under (chains_of slots') k ≡ under (chains_of slots) k
others_stay slots slots' free free' x kept off k ne =
    chain_stays slots slots' free free' k (λ before behind. ap (λ (cell : Option Cell). parted_with cell before behind) (off k ne))
    (kept.others (Left k) (λ e. cc)) (kept.others (Right k) (λ e. cc))

-- a key whose cell is no head has no chain
no_chain : (slots : List (Option Cell)) (free : Stack) (x : ℕ) (cell : Option Cell)
    → ((before behind : List ℕ) → parted_with cell before behind ≡ None) → under slots x ≡ cell
    → under (chains_of slots) x ≡ None
no_chain slots free x cell none e =
    chain_by_contents slots free x
    ∙ ap (λ (found : Option Cell). parted_with found (content (memory_of slots) free (Left x)) (content (memory_of slots) free (Right x))) e
    ∙ none (content (memory_of slots) free (Left x)) (content (memory_of slots) free (Right x))

pub record Made (slots slots' : List (Option Cell)) (capacity : ℕ) (free' : Stack) (spare : ℕ) : Type 0 where
  pub sound : IsSound slots' capacity free' spare
  pub alike : IsAlike (chains_of slots) (chains_of slots')

module _ (slots : List (Option Cell)) (capacity : ℕ) (free : Stack) (spare : ℕ) (sound : IsSound slots capacity free spare) where
  -- a cell that the slab makes becomes a free one
  pub make_sound : (slots' : List (Option Cell)) (x value : ℕ) → under slots x ≡ None → under slots' x ≡ Some (Entry free.top value)
      → ((k : ℕ) → k ≢ x → under slots' k ≡ under slots k) → count_by is_some slots' ≡ count_by is_some slots + 1
      → free.len < spare
      → Made slots slots' capacity (record { top = x; len = free.len + 1 }) spare
  make_sound slots' x value vacant written off count lt =
      let free' : Stack = record { top = x; len = free.len + 1 } in
      let adds : Adds (memory_of slots) (memory_of slots') free free' x value = grind (arith, left_of) in
      let kept = added (memory_of slots) (memory_of slots') free free' x value adds sound.owners sound.stacks in
      let alike : IsAlike (chains_of slots) (chains_of slots') = λ k. elim (cases_eq k x) [
        | inl e ↦ ap (under (chains_of slots')) e ∙ no_chain slots' free' x _ (λ _ _. refl) written
            ∙ sym (ap (under (chains_of slots)) e ∙ no_chain slots free x _ (λ _ _. refl) vacant)
        | inr ne ↦ others_stay slots slots' free free' x kept off k ne
      ] in grind (arith, cells_in-alike_joined)

-- the cells stay sound, and one name has another chain or none
pub record Turned (slots slots' : List (Option Cell)) (capacity : ℕ) (free' : Stack) (spare' : ℕ) (name : ℕ) (old thing : Option Parted)
    : Type 0 where
  pub sound : IsSound slots' capacity free' spare'
  pub edit : IsEdit (chains_of slots) (chains_of slots') name thing
  pub was : under (chains_of slots) name ≡ old

module _ (slots : List (Option Cell)) (capacity : ℕ) (free : Stack) (spare : ℕ) (sound : IsSound slots capacity free spare) where
  -- the topmost free cell becomes the head of a chain with no entries
  pub start_sound : (next value : ℕ) → under slots free.top ≡ Some (Entry next value) → 0 < free.len
      → Turned slots (set slots free.top (Some (Head no_cells no_cells))) capacity (record { top = next; len = free.len - 1 }) (spare - 1)
      free.top None (Some (record { before = []; behind = [] }))
  start_sound next value here some =
      let x = free.top in
      let new : List (Option Cell) = set slots x (Some (Head no_cells no_cells)) in
      let free' : Stack = record { top = next; len = free.len - 1 } in
      let written : under new x ≡ Some (Head no_cells no_cells) = get_or-set_same slots x _ None (within slots x _ here) in
      let off : (k : ℕ) → k ≢ x → under new k ≡ under slots k = λ k ne. get_or-set_other slots x k _ None ne in
      let takes : Takes (memory_of slots) (memory_of new) free free' x next value = grind arith in
      let kept = taken (memory_of slots) (memory_of new) free free' x next value takes sound.owners sound.stacks in
      let no_left : content (memory_of new) free' (Left x) ≡ [] =
      ap (λ (st : Stack). values (memory_of new) st.len st.top) (ap left_of written) ∙ values-none (memory_of new) 0 in
      let no_right : content (memory_of new) free' (Right x) ≡ [] =
      ap (λ (st : Stack). values (memory_of new) st.len st.top) (ap right_of written) ∙ values-none (memory_of new) 0 in
      let was : under (chains_of slots) x ≡ None = no_chain slots free x _ (λ _ _. refl) here in
      let thing : Option Parted = Some (record { before = []; behind = [] }) in
      let edit : IsEdit (chains_of slots) (chains_of new) x thing = record {
        here = chain_at_head new free' x no_cells no_cells written
            ∙ ap (λ (list : List ℕ). Some (record { before = list; behind = content (memory_of new) free' (Right x) })) no_left
            ∙ ap (λ (list : List ℕ). Some (record { before = []; behind = list })) no_right;
        others = others_stay slots new free free' x kept off;
      } in
      record {
        sound = record {
          owners = kept.owners;
          stacks = kept.stacks;
          made = omega (arith, some, sound.made);
          room = omega (arith, some, sound.made, sound.room, count_by-set slots x _ (Head no_cells no_cells) here);
          keys = λ less. sound.keys (omega (arith, some, sound.made, less));
          fits = omega (
            arith,
            some,
            sound.made,
            sound.fits,
            cells_in-edit_joined (chains_of slots) (chains_of new) x thing edit,
            ap (λ (o : Option Parted). cells_of (joined_option o)) was,
            cells_of-parted thing (record { before = []; behind = [] }) refl,
          );
        };
        edit = edit;
        was = was;
      }

  -- the head of a chain with no entries becomes a free cell
  pub drop_sound : (c : ℕ) (l r : Stack) → under slots c ≡ Some (Head l r) → l.len ≡ 0 → r.len ≡ 0
      → Turned slots (set slots c (Some (Entry free.top 0))) capacity (record { top = c; len = free.len + 1 }) (spare + 1)
      c (under (chains_of slots) c) None
  drop_sound c l r head no_left no_right =
      let new : List (Option Cell) = set slots c (Some (Entry free.top 0)) in
      let free' : Stack = record { top = c; len = free.len + 1 } in
      let written : under new c ≡ Some (Entry free.top 0) = get_or-set_same slots c _ None (within slots c _ head) in
      let off : (k : ℕ) → k ≢ c → under new k ≡ under slots k = λ k ne. get_or-set_other slots c k _ None ne in
      let adds : Adds (memory_of slots) (memory_of new) free free' c 0 = grind (arith, left_of) in
      let kept = added (memory_of slots) (memory_of new) free free' c 0 adds sound.owners sound.stacks in
      let edit : IsEdit (chains_of slots) (chains_of new) c None = record {
        here = no_chain new free' c _ (λ _ _. refl) written;
        others = others_stay slots new free free' c kept off;
      } in
      record {
        sound = record {
          owners = kept.owners;
          stacks = kept.stacks;
          made = omega (arith, sound.made);
          room = omega (arith, sound.room, count_by-set slots c (Head l r) (Entry free.top 0) head);
          keys = λ less. sound.keys (omega (arith, less));
          fits = omega (
            arith,
            sound.fits,
            no_left,
            no_right,
            cells_in-edit_joined (chains_of slots) (chains_of new) c None edit,
            cells_here slots capacity free spare sound c l r head,
          );
        };
        edit = edit;
        was = refl;
      }

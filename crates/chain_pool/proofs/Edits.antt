-- The edits of one chain at its place: a step on, a step back, an entry more, an entry less.
use Rattle.chain_pool.proofs.Common.{under, IsEdit, cells_in, Parted, Owner, Free, Left, Right, memory_of, joined_lists, parted_under, chains_of, stack_of, left_of, right_of, IsSound, advanced, retreated, pushed_before, cut_here, Cell, Head, Entry, Stack, ◌≡◌, ◌≢◌, ℕ, ◌+◌, ◌-◌, ◌<◌, List, set, count_by, is_some, Option, Some, refl, sym, ap, subst, ◌∙◌, arith, common_steps}
use Rattle.chain_pool.proofs.Rewrites.{rewritten, at_head, kinds_stay, chain_at_head, chain_stays, apart}
use Rattle.chain_pool.proofs.Soundness.{count_by-set, cells_in-edit_joined, cells_of-parted, parted_under-is, cells_here}
use Rattle.chain_pool.proofs.Stacks.{length-values}
use Rattle.chain_pool.proofs.Transfers.{content, Moves, Moved, moved}

-- the cells stay sound, and one chain becomes another
pub record Edited (slots slots' : List (Option Cell)) (capacity : ℕ) (free' : Stack) (spare' : ℕ) (name : ℕ)
    (parted : Parted) : Type 0 where
  pub sound : IsSound slots' capacity free' spare'
  pub edit : IsEdit (chains_of slots) (chains_of slots') name (Some parted)

module _ (slots : List (Option Cell)) (x c next v link v' : ℕ) (l r l' r' : Stack)
    (here : under slots x ≡ Some (Entry next v)) (head : under slots c ≡ Some (Head l r)) where
  abbrev slots' : List (Option Cell)
  slots' = rewritten slots x c next v link v' l r l' r' here head

  at_c : under slots' c ≡ Some (Head l' r')
  at_c = at_head slots x c next v link v' l r l' r' here head

  module _ (capacity : ℕ) (free : Stack) (spare : ℕ) (sound : IsSound slots capacity free spare) (free' : Stack) (spare' : ℕ) where
    -- the stacks that may change: the free cells, and those of the chain
    abbrev IsMine : Owner → Type 0
    IsMine Free = Unit {0}
    IsMine (Left k) = k ≡ c
    IsMine (Right k) = k ≡ c

    abbrev old_of : Owner → Stack
    old_of Free = free
    old_of (Left k) = l
    old_of (Right k) = r

    abbrev new_of : Owner → Stack
    new_of Free = free'
    new_of (Left k) = l'
    new_of (Right k) = r'

    now : (u : Owner) → IsMine u → stack_of (memory_of slots') free' u ≡ new_of u
    now Free is = refl
    now (Left k) is = ap (λ (j : ℕ). left_of (under slots' j)) is ∙ ap left_of at_c
    now (Right k) is = ap (λ (j : ℕ). right_of (under slots' j)) is ∙ ap right_of at_c

    -- the cell goes from the top of one stack to the top of another, and the third stays
    module _ (s t : Owner) (source_mine : IsMine s) (target_mine : IsMine t) (differ : s ≢ t) (top : (old_of s).top ≡ x)
        (some : 0 < (old_of s).len) (linked : link ≡ (old_of t).top)
        (from : new_of s ≡ record { top = next; len = (old_of s).len - 1 }) (to : new_of t ≡ record { top = x; len = (old_of t).len + 1 })
        (on_free : Free ≢ s → Free ≢ t → free' ≡ free) (on_left : Left c ≢ s → Left c ≢ t → l' ≡ l)
        (on_right : Right c ≢ s → Right c ≢ t → r' ≡ r) where
      others : (u : Owner) → u ≢ s → u ≢ t → stack_of (memory_of slots') free' u ≡ stack_of (memory_of slots) free u
      others Free ns nt = on_free ns nt
      others (Left k) ns nt = grind (arith, common_steps)
      others (Right k) ns nt = grind (arith, common_steps)

      moves : Moves (memory_of slots) (memory_of slots') free free' s t x next v v'
      moves = grind (arith, common_steps)

      done : Moved (memory_of slots) (memory_of slots') free free' s t v v'
      done = moved (memory_of slots) (memory_of slots') free free' s t x next v v' moves sound.owners sound.stacks

      -- stacks of other chains stay
      stays : (u : Owner) → (IsMine u → ⊥) → content (memory_of slots') free' u ≡ content (memory_of slots) free u
      stays u other = done.others u (λ e. other (subst IsMine (sym e) source_mine)) (λ e. other (subst IsMine (sym e) target_mine))

      abbrev here_now : Parted
      here_now =
          record { before = content (memory_of slots') free' (Left c); behind = content (memory_of slots') free' (Right c) }

      chain_edit : IsEdit (chains_of slots) (chains_of slots') c (Some here_now)
      chain_edit = record {
        here = chain_at_head slots' free' c l' r' at_c;
        others = λ k ne. chain_stays slots slots' free free' k (kinds_stay slots x c next v link v' l r l' r' here head k ne)
            (stays (Left k) ne) (stays (Right k) ne);
      }

      head_kept : under (set slots x (Some (Entry link v'))) c ≡ Some (Head l r)
      head_kept = grind (arith, common_steps, apart)

      same_count : count_by is_some slots' ≡ count_by is_some slots
      same_count =
          count_by-set (set slots x (Some (Entry link v'))) c (Head l r) (Head l' r') head_kept
          ∙ count_by-set slots x (Entry next v) (Entry link v') here

      cells_balance : l'.len + r'.len + spare' ≡ l.len + r.len + spare
          → cells_in (joined_lists (chains_of slots')) + spare' ≡ cells_in (joined_lists (chains_of slots)) + spare
      cells_balance weights =
          omega (
            arith,
            weights,
            cells_in-edit_joined (chains_of slots) (chains_of slots') c (Some here_now) chain_edit,
            cells_of-parted (Some here_now) here_now refl,
            length-values (memory_of slots') done.owners (Left c) _ _ (done.stacks (Left c)),
            length-values (memory_of slots') done.owners (Right c) _ _ (done.stacks (Right c)),
            ap (λ (st : Stack). st.len) (now (Left c) refl),
            ap (λ (st : Stack). st.len) (now (Right c) refl),
            cells_here slots capacity free spare sound c l r head,
          )

      edited : (thing : Parted) → (Moved (memory_of slots) (memory_of slots') free free' s t v v' → here_now ≡ thing)
          → free'.len + spare ≡ free.len + spare' → l'.len + r'.len + spare' ≡ l.len + r.len + spare
          → Edited slots slots' capacity free' spare' c thing
      edited thing same even weights = record {
        sound = record {
          owners = done.owners;
          stacks = done.stacks;
          made = omega (arith, even, sound.made);
          room = omega (arith, even, sound.room, same_count);
          keys = λ lt. sound.keys (omega (arith, even, lt));
          fits = omega (arith, cells_balance weights, sound.fits);
        };
        edit = subst (λ (p : Parted). IsEdit (chains_of slots) (chains_of slots') c (Some p)) (same done) chain_edit;
      }

-- what a chain was, by its stacks
module _ (slots : List (Option Cell)) (capacity : ℕ) (free : Stack) (spare : ℕ) (sound : IsSound slots capacity free spare)
    (c : ℕ) (l r : Stack) (head : under slots c ≡ Some (Head l r)) where
  abbrev before_now : List ℕ
  before_now = content (memory_of slots) free (Left c)

  abbrev behind_now : List ℕ
  behind_now = content (memory_of slots) free (Right c)

  parted_now : parted_under (chains_of slots) c ≡ record { before = before_now; behind = behind_now }
  parted_now = parted_under-is (chains_of slots) c _ (chain_at_head slots free c l r head)

  abbrev parted_at : ℕ → Parted
  parted_at name = parted_under (chains_of slots) name

  -- the entry on top of the stack behind goes onto the one before
  pub advance_edits : (next v : ℕ) → under slots r.top ≡ Some (Entry next v) → 0 < r.len
      → Edited slots (set (set slots r.top (Some (Entry l.top v))) c
      (Some (Head (record { top = r.top; len = l.len + 1 }) (record { top = next; len = r.len - 1 }))))
      capacity free spare c (advanced (parted_at c))
  advance_edits next v here some =
      let l' : Stack = record { top = r.top; len = l.len + 1 } in
      let r' : Stack = record { top = next; len = r.len - 1 } in
      edited slots r.top c next v l.top v l r l' r' here head capacity free spare sound free spare (Right c) (Left c)
      refl refl (λ e. cc) refl some refl refl refl (λ _ _. refl) (λ _ ne. absurd (ne refl)) (λ ne _. absurd (ne refl))
      (advanced (parted_at c)) (λ done. rw (parted_now, done.from, done.to) refl)
      (omega (arith, some, sound.made)) (omega (arith, some, sound.made))

  -- the entry on top of the stack before goes onto the one behind
  pub retreat_edits : (next v : ℕ) → under slots l.top ≡ Some (Entry next v) → 0 < l.len
      → Edited slots (set (set slots l.top (Some (Entry r.top v))) c
      (Some (Head (record { top = next; len = l.len - 1 }) (record { top = l.top; len = r.len + 1 }))))
      capacity free spare c (retreated (parted_at c))
  retreat_edits next v here some =
      let l' : Stack = record { top = next; len = l.len - 1 } in
      let r' : Stack = record { top = l.top; len = r.len + 1 } in
      edited slots l.top c next v r.top v l r l' r' here head capacity free spare sound free spare (Left c) (Right c)
      refl refl (λ e. cc) refl some refl refl refl (λ _ _. refl) (λ ne _. absurd (ne refl)) (λ _ ne. absurd (ne refl))
      (retreated (parted_at c)) (λ done. rw (parted_now, done.from, done.to) refl)
      (omega (arith, some, sound.made)) (omega (arith, some, sound.made))

  -- a free cell with a value goes onto the stack before
  pub push_edits : (value : ℕ) (next v : ℕ) → under slots free.top ≡ Some (Entry next v) → 0 < free.len
      → Edited slots (set (set slots free.top (Some (Entry l.top value))) c
      (Some (Head (record { top = free.top; len = l.len + 1 }) r)))
      capacity (record { top = next; len = free.len - 1 }) (spare - 1) c (pushed_before (parted_at c) value)
  push_edits value next v here some =
      let l' : Stack = record { top = free.top; len = l.len + 1 } in
      let r' : Stack = r in
      let free' : Stack = record { top = next; len = free.len - 1 } in
      edited slots free.top c next v l.top value l r l' r' here head capacity free spare sound free' (spare - 1) Free (Left c)
      tt refl (λ e. cc) refl some refl refl refl (λ ne _. absurd (ne refl)) (λ _ ne. absurd (ne refl)) (λ _ _. refl)
      (pushed_before (parted_at c) value) (λ done. rw (parted_now, done.to, done.others (Right c) (λ e. cc) (λ e. cc)) refl)
      (omega (arith, some, sound.made)) (omega (arith, some, sound.made))

  -- the entry on top of the stack behind becomes a free cell
  pub cut_edits : (next v : ℕ) → under slots r.top ≡ Some (Entry next v) → 0 < r.len
      → Edited slots (set (set slots r.top (Some (Entry free.top v))) c
      (Some (Head l (record { top = next; len = r.len - 1 }))))
      capacity (record { top = r.top; len = free.len + 1 }) (spare + 1) c (cut_here (parted_at c))
  cut_edits next v here some =
      let l' : Stack = l in
      let r' : Stack = record { top = next; len = r.len - 1 } in
      let free' : Stack = record { top = r.top; len = free.len + 1 } in
      edited slots r.top c next v free.top v l r l' r' here head capacity free spare sound free' (spare + 1) (Right c) Free
      refl tt (λ e. cc) refl some refl refl refl (λ _ ne. absurd (ne refl)) (λ _ _. refl) (λ ne _. absurd (ne refl))
      (cut_here (parted_at c)) (λ done. rw (parted_now, done.from, done.others (Left c) (λ e. cc) (λ e. cc)) refl)
      (omega (arith, some, sound.made)) (omega (arith, some, sound.made))

-- What all stacks are after one cell becomes free, or one free cell a head.
use Rattle.chain_pool.proofs.Common.{Memory, Owner, Owners, Free, Left, Right, values, IsOwned, AreOwned, left_of, right_of, no_cells, Cell, Head, Entry, Stack, ◌≡◌, ◌≢◌, ℕ, suc, ◌+◌, ◌-◌, ◌<◌, [], Option, Some, refl, sym, ap, subst, ◌∙◌, arith}
use Rattle.chain_pool.proofs.Stacks.{Keeps, IsLoose, HasTop, IsOwned-none, IsOwned-more, IsOwned-top, IsOwned-kept, values-none, values-kept, owners_with, owners_with-here, owners_with-others}
use Rattle.chain_pool.proofs.Transfers.{content, content_of, IsOwnedStack}

-- all stacks but that of the free cells keep their values
pub record Kept (h h' : Memory) (free free' : Stack) : Type 0 where
  pub owners : Owners
  pub stacks : AreOwned h' free' owners
  pub others : (u : Owner) → u ≢ Free → content h' free' u ≡ content h free u

-- a stack with no cells
empty_owned : (h : Memory) (o : Owners) (u : Owner) (stack : Stack) → stack.len ≡ 0 → IsOwnedStack h o u stack
empty_owned h o u stack e = subst (λ (n : ℕ). IsOwned h o u n stack.top) (sym e) (IsOwned-none h o u stack.top)

empty_content : (h : Memory) (stack : Stack) → stack.len ≡ 0 → content_of h stack ≡ []
empty_content h stack e = ap (λ (n : ℕ). values h n stack.top) e ∙ values-none h stack.top

-- a stack on one side of a chain's place keeps its cells and its values, where one cell changes that is in no stack on that side
module _ (h h' : Memory) (o o' : Owners) (x : ℕ) (keeps : Keeps h h' o o' x) (off : (k : ℕ) → k ≢ x → h' k ≡ h k) where
  kept_side : (side : Option Cell → Stack) (u : Owner) (c : ℕ) → (side (h' x)).len ≡ 0 → (side (h x)).len ≡ 0
      → IsLoose h o u (side (h c)).len x → IsOwnedStack h o u (side (h c))
      → IsOwnedStack h' o' u (side (h' c)) × (content_of h' (side (h' c)) ≡ content_of h (side (h c)))
  kept_side side u c none had loose own = grind (arith, empty_owned, empty_content, IsOwned-kept, values-kept)

-- a cell that is no entry, and no head of a chain with entries, becomes a free one
pub record Adds (h h' : Memory) (free free' : Stack) (x value : ℕ) : Type 0 where
  pub bare : (a b : ℕ) → h x ≡ Some (Entry a b) → ⊥
  pub no_left : (left_of (h x)).len ≡ 0
  pub no_right : (right_of (h x)).len ≡ 0
  pub written : h' x ≡ Some (Entry free.top value)
  pub off : (k : ℕ) → k ≢ x → h' k ≡ h k
  pub more : free' ≡ record { top = x; len = free.len + 1 }

module _ (h h' : Memory) (free free' : Stack) (x value : ℕ) (adds : Adds h h' free free' x value)
    (o : Owners) (owned : AreOwned h free o) where
  abbrev with_cell : Owners
  with_cell = owners_with o x (Free, free.len)

  added_keeps : Keeps h h' o with_cell x
  added_keeps = grind (arith, owners_with-others)

  added_loose : (u : Owner) (n : ℕ) → IsLoose h o u n x
  added_loose u n = record { off = λ d a b lt e owner. adds.bare a b e }

  added_free : IsOwnedStack h' with_cell Free free'
  added_free =
      let below = IsOwned-kept h h' o with_cell x added_keeps Free _ _ (added_loose Free _) (owned Free) in
      let one_more : free.len + 1 ≡ suc free.len = omega arith in grind (arith, IsOwned-more, owners_with-here)

  added_left : (c : ℕ)
      → IsOwnedStack h' with_cell (Left c) (left_of (h' c)) × (content_of h' (left_of (h' c)) ≡ content_of h (left_of (h c)))
  added_left c =
      kept_side h h' o with_cell x added_keeps adds.off left_of (Left c) c (ap (λ (cell : Option Cell). (left_of cell).len) adds.written)
      adds.no_left (added_loose (Left c) _) (owned (Left c))

  added_right : (c : ℕ)
      → IsOwnedStack h' with_cell (Right c) (right_of (h' c)) × (content_of h' (right_of (h' c)) ≡ content_of h (right_of (h c)))
  added_right c =
      kept_side h h' o with_cell x added_keeps adds.off right_of (Right c) c (ap (λ (cell : Option Cell). (right_of cell).len) adds.written)
      adds.no_right (added_loose (Right c) _) (owned (Right c))

  added_stacks : AreOwned h' free' with_cell
  added_stacks Free = added_free
  added_stacks (Left c) = (added_left c).0
  added_stacks (Right c) = (added_right c).0

  added_others : (u : Owner) → u ≢ Free → content h' free' u ≡ content h free u
  added_others Free ne = absurd (ne refl)
  added_others (Left c) ne = (added_left c).1
  added_others (Right c) ne = (added_right c).1

  pub added : Kept h h' free free'
  added = record { owners = with_cell; stacks = added_stacks; others = added_others }

-- the topmost free cell becomes the head of a chain with no entries
pub record Takes (h h' : Memory) (free free' : Stack) (x next value : ℕ) : Type 0 where
  pub top : free.top ≡ x
  pub some : 0 < free.len
  pub here : h x ≡ Some (Entry next value)
  pub written : h' x ≡ Some (Head no_cells no_cells)
  pub off : (k : ℕ) → k ≢ x → h' k ≡ h k
  pub fewer : free' ≡ record { top = next; len = free.len - 1 }

module _ (h h' : Memory) (free free' : Stack) (x next value : ℕ) (takes : Takes h h' free free' x next value)
    (o : Owners) (owned : AreOwned h free o) where
  taken_keeps : Keeps h h' o o x
  taken_keeps = record { entries = λ k a b ne e. takes.off k ne ∙ e; owners = λ k ne. refl }

  taken_topped : HasTop h o Free free.len x
  taken_topped = subst (λ (top : ℕ). HasTop h o Free free.len top) takes.top (IsOwned-top h o Free _ _ takes.some (owned Free))

  taken_next : taken_topped.next ≡ next
  taken_next = let e = sym taken_topped.entry ∙ takes.here in cc

  loose_here : IsLoose h o Free (free.len - 1) x
  loose_here = record {
    off = λ d a b lt e owner. let same = ap (λ (p : Owner × ℕ). p.1) (sym owner
        ∙ taken_topped.owner) in absurd (omega (arith, same, lt));
  }

  loose_elsewhere : (u : Owner) (n : ℕ) → u ≢ Free → IsLoose h o u n x
  loose_elsewhere u n ne = record { off = λ d a b lt e owner. absurd (ne (ap (λ (p : Owner × ℕ). p.0) (sym owner ∙ taken_topped.owner))) }

  taken_free : IsOwnedStack h' o Free free'
  taken_free =
      subst (λ (st : Stack). IsOwnedStack h' o Free st) (sym takes.fewer)
      (IsOwned-kept h h' o o x taken_keeps Free _ next loose_here
      (subst (λ (n : ℕ). IsOwned h o Free (free.len - 1) n) taken_next taken_topped.rest))

  taken_left : (c : ℕ) → IsOwnedStack h' o (Left c) (left_of (h' c)) × (content_of h' (left_of (h' c)) ≡ content_of h (left_of (h c)))
  taken_left c =
      kept_side h h' o o x taken_keeps takes.off left_of (Left c) c (ap (λ (cell : Option Cell). (left_of cell).len) takes.written)
      (ap (λ (cell : Option Cell). (left_of cell).len) takes.here) (loose_elsewhere (Left c) _ (λ e. cc)) (owned (Left c))

  taken_right : (c : ℕ) → IsOwnedStack h' o (Right c) (right_of (h' c)) × (content_of h' (right_of (h' c)) ≡ content_of h (right_of (h c)))
  taken_right c =
      kept_side h h' o o x taken_keeps takes.off right_of (Right c) c (ap (λ (cell : Option Cell). (right_of cell).len) takes.written)
      (ap (λ (cell : Option Cell). (right_of cell).len) takes.here) (loose_elsewhere (Right c) _ (λ e. cc)) (owned (Right c))

  taken_stacks : AreOwned h' free' o
  taken_stacks Free = taken_free
  taken_stacks (Left c) = (taken_left c).0
  taken_stacks (Right c) = (taken_right c).0

  taken_others : (u : Owner) → u ≢ Free → content h' free' u ≡ content h free u
  taken_others Free ne = absurd (ne refl)
  taken_others (Left c) ne = (taken_left c).1
  taken_others (Right c) ne = (taken_right c).1

  pub taken : Kept h h' free free'
  taken = record { owners = o; stacks = taken_stacks; others = taken_others }

-- What a change of one or two cells does to all stacks.
use Rattle.chain_pool.proofs.Common.{Memory, Owner, Owners, values, IsOwned, AreOwned, stack_of, Entry, Stack, ◌≡◌, ◌≢◌, ℕ, suc, ◌+◌, ◌-◌, ◌<◌, List, ◌∷◌, Some, sym, ap, subst, ◌∙◌, inl, inr, arith}
use Rattle.chain_pool.proofs.Stacks.{Keeps, IsLoose, HasTop, IsOwned-more, IsOwned-top, IsOwned-kept, values-more, values-kept, owners_with, owners_with-here, owners_with-others, owner_cases}

-- the values of a stack
abbrev pub content : Memory → Stack → Owner → List ℕ
content h free u = values h (stack_of h free u).len (stack_of h free u).top

abbrev pub IsOwnedStack : Memory → Owners → Owner → Stack → Type 0
IsOwnedStack h o u stack = IsOwned h o u stack.len stack.top

abbrev pub content_of : Memory → Stack → List ℕ
content_of h stack = values h stack.len stack.top

-- the cell on top of one stack is moved to the top of another
pub record Moves (h h' : Memory) (free free' : Stack) (s t : Owner) (x next v v' : ℕ) : Type 0 where
  pub differ : s ≢ t
  pub top : (stack_of h free s).top ≡ x
  pub some : 0 < (stack_of h free s).len
  pub here : h x ≡ Some (Entry next v)
  pub written : h' x ≡ Some (Entry (stack_of h free t).top v')
  pub entries : (k a b : ℕ) → k ≢ x → h k ≡ Some (Entry a b) → h' k ≡ Some (Entry a b)
  pub from : stack_of h' free' s ≡ record { top = next; len = (stack_of h free s).len - 1 }
  pub to : stack_of h' free' t ≡ record { top = x; len = (stack_of h free t).len + 1 }
  pub others : (u : Owner) → u ≢ s → u ≢ t → stack_of h' free' u ≡ stack_of h free u

-- what all stacks are afterwards
pub record Moved (h h' : Memory) (free free' : Stack) (s t : Owner) (v v' : ℕ) : Type 0 where
  pub owners : Owners
  pub stacks : AreOwned h' free' owners
  pub from : content h free s ≡ v ∷ content h' free' s
  pub to : content h' free' t ≡ v' ∷ content h free t
  pub others : (u : Owner) → u ≢ s → u ≢ t → content h' free' u ≡ content h free u

module _ (h h' : Memory) (free free' : Stack) (s t : Owner) (x next v v' : ℕ) (moves : Moves h h' free free' s t x next v v')
    (o : Owners) (owned : AreOwned h free o) where
  abbrev after : Owners
  after = owners_with o x (t, (stack_of h free t).len)

  keeps : Keeps h h' o after x
  keeps = record { entries = moves.entries; owners = λ k ne. owners_with-others o x _ k ne }

  topped : HasTop h o s (stack_of h free s).len x
  topped = grind (arith, IsOwned-top)

  same_next : topped.next ≡ next
  same_next = let e = sym topped.entry ∙ moves.here in cc

  rest : IsOwned h o s ((stack_of h free s).len - 1) next
  rest = subst (λ (n : ℕ). IsOwned h o s ((stack_of h free s).len - 1) n) same_next topped.rest

  loose_source : IsLoose h o s ((stack_of h free s).len - 1) x
  loose_source = record {
    off = λ d a b lt e owner. let same = ap (λ (p : Owner × ℕ). p.1) (sym owner
        ∙ topped.owner) in absurd (omega (arith, same, lt));
  }

  loose_other : (u : Owner) (n : ℕ) → u ≢ s → IsLoose h o u n x
  loose_other u n ne = record { off = λ d a b lt e owner. absurd (ne (ap (λ (p : Owner × ℕ). p.0) (sym owner ∙ topped.owner))) }

  source_owned : IsOwnedStack h' after s (stack_of h' free' s)
  source_owned =
      subst (λ (st : Stack). IsOwnedStack h' after s st) (sym moves.from)
      (IsOwned-kept h h' o after x keeps s _ next loose_source rest)

  target_owned : IsOwnedStack h' after t (stack_of h' free' t)
  target_owned =
      let below = IsOwned-kept h h' o after x keeps t _ _ (loose_other t _ (λ e. moves.differ (sym e))) (owned t) in
      let more : (stack_of h free t).len + 1 ≡ suc (stack_of h free t).len = omega arith in grind (arith, IsOwned-more, owners_with-here)

  other_owned : (u : Owner) → u ≢ s → u ≢ t → IsOwnedStack h' after u (stack_of h' free' u)
  other_owned u ns nt =
      subst (λ (st : Stack). IsOwnedStack h' after u st) (sym (moves.others u ns nt))
      (IsOwned-kept h h' o after x keeps u _ _ (loose_other u _ ns) (owned u))

  all_owned : AreOwned h' free' after
  all_owned u =
      elim (owner_cases u s) [
        | inl e ↦ subst (λ (w : Owner). IsOwnedStack h' after w (stack_of h' free' w)) (sym e) source_owned
        | inr ns ↦ elim (owner_cases u t) [
          | inl e ↦ subst (λ (w : Owner). IsOwnedStack h' after w (stack_of h' free' w)) (sym e) target_owned
          | inr nt ↦ other_owned u ns nt
        ]
      ]

  source_content : content h free s ≡ v ∷ content h' free' s
  source_content =
      let n = (stack_of h free s).len in
      let more : n ≡ suc (n - 1) = omega (arith, moves.some) in
      ap (λ (m : ℕ). values h m (stack_of h free s).top) more
      ∙ values-more h (n - 1) (stack_of h free s).top next v (ap h moves.top ∙ moves.here)
      ∙ ap (λ (l : List ℕ). v ∷ l) (sym (values-kept h h' o after x keeps s (n - 1) next loose_source rest)
      ∙ sym (ap (content_of h') moves.from))

  target_content : content h' free' t ≡ v' ∷ content h free t
  target_content =
      let n = (stack_of h free t).len in
      let more : n + 1 ≡ suc n = omega arith in
      ap (content_of h') moves.to ∙ ap (λ (m : ℕ). values h' m x) more
      ∙ values-more h' n x (stack_of h free t).top v' moves.written
      ∙ ap (λ (l : List ℕ). v' ∷ l)
      (values-kept h h' o after x keeps t _ _ (loose_other t _ (λ e. moves.differ (sym e))) (owned t))

  other_content : (u : Owner) → u ≢ s → u ≢ t → content h' free' u ≡ content h free u
  other_content u ns nt =
      ap (content_of h') (moves.others u ns nt) ∙ values-kept h h' o after x keeps u _ _ (loose_other u _ ns) (owned u)

  pub moved : Moved h h' free free' s t v v'
  moved = record { owners = after; stacks = all_owned; from = source_content; to = target_content; others = other_content }

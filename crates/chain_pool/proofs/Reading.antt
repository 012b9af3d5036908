-- Stacks of cells that are only read.
use Rattle.chain_pool.proofs.Common.{under, Memory, Owner, Owners, Left, Right, memory_of, values, IsOwned, IsStack, IsSound, IsEntry, left_of, right_of, Cell, Head, Entry, Stack, ◌≡◌, ℕ, zero, suc, ◌-◌, ◌<◌, List, [], ◌∷◌, length, get_or, drop, Option, Some, None, refl, sym, ap, subst, ◌∙◌, arith, MatchOption, IsSome}
use Rattle.chain_pool.proofs.Stacks.{values-none, values-more}

pub IsStack-owned : (h : Memory) (o : Owners) (s : Owner) (n top : ℕ) → IsOwned h o s n top → IsStack h n top
unfolding IsOwned IsStack
IsStack-owned h o s zero top owned = tt
IsStack-owned h o s (suc n) top owned = (owned.0, owned.1, owned.2, IsStack-owned h o s n owned.0 owned.4)

-- the cell on top
pub record HasFirst (h : Memory) (n top : ℕ) : Type 0 where
  pub next : ℕ
  pub value : ℕ
  pub entry : h top ≡ Some (Entry next value)
  pub rest : IsStack h (n - 1) next

pub IsStack-first : (h : Memory) (n top : ℕ) → 0 < n → IsStack h n top → HasFirst h n top
unfolding IsStack
IsStack-first h zero top lt stack = absurd (omega arith)
IsStack-first h (suc n) top lt stack = grind arith

pub first_entry : (h : Memory) (n top : ℕ) → 0 < n → IsStack h n top → IsEntry (h top)
first_entry h n top lt stack = let first = IsStack-first h n top lt stack in subst IsEntry (sym first.entry) tt

-- what is left behind the first
pub rest_stack : (h : Memory) (n top next value : ℕ) → 0 < n → IsStack h n top → h top ≡ Some (Entry next value) → IsStack h (n - 1) next
rest_stack h n top next value lt stack e = grind (arith, IsStack-first)

pub values-first : (h : Memory) (n top next value : ℕ) → 0 < n → h top ≡ Some (Entry next value)
    → values h n top ≡ value ∷ values h (n - 1) next
values-first h n top next value lt e =
    let more : n ≡ suc (n - 1) = omega arith in grind (arith, values-more)

pub length-stack : (h : Memory) (n top : ℕ) → IsStack h n top → length (values h n top) ≡ n
unfolding IsStack
length-stack h zero top stack = ap (λ (l : List ℕ). length l) (values-none h top)
length-stack h (suc n) top stack =
    ap (λ (l : List ℕ). length l) (values-more h n top stack.0 stack.1 stack.2) ∙ ap suc (length-stack h n stack.0 stack.3)

module _ (slots : List (Option Cell)) (capacity : ℕ) (free : Stack) (spare : ℕ) (sound : IsSound slots capacity free spare)
    (c : ℕ) (l r : Stack) (head : under slots c ≡ Some (Head l r)) where
  pub left_stack : IsStack (memory_of slots) l.len l.top
  left_stack =
      subst (λ (st : Stack). IsStack (memory_of slots) st.len st.top) (ap left_of head)
      (IsStack-owned (memory_of slots) sound.owners (Left c) _ _ (sound.stacks (Left c)))

  pub right_stack : IsStack (memory_of slots) r.len r.top
  right_stack =
      subst (λ (st : Stack). IsStack (memory_of slots) st.len st.top) (ap right_of head)
      (IsStack-owned (memory_of slots) sound.owners (Right c) _ _ (sound.stacks (Right c)))

-- a reader that has given its next entry
pub rest_left : (given : Option ℕ) (xs ys : List ℕ) → MatchOption given ((xs ≡ []) × (ys ≡ [])) (λ x. xs ≡ x ∷ ys) → ys ≡ drop 1 xs
rest_left None xs ys h = h.1 ∙ sym (ap (λ (l : List ℕ). drop 1 l) h.0)
rest_left (Some x) xs ys h = sym (ap (λ (l : List ℕ). drop 1 l) h)

pub some_left : (given : Option ℕ) (xs ys : List ℕ) → MatchOption given ((xs ≡ []) × (ys ≡ [])) (λ x. xs ≡ x ∷ ys) → 0 < length xs
    → IsSome given
some_left None xs ys h lt = absurd (omega (arith, lt, ap (λ (l : List ℕ). length l) h.0))
some_left (Some x) xs ys h lt = refl

pub first_left : (given : Option ℕ) (x : ℕ) (xs ys : List ℕ) → MatchOption given ((xs ≡ []) × (ys ≡ [])) (λ v. xs ≡ v ∷ ys)
    → given ≡ Some x
    → get_or xs 0 0 ≡ x
first_left None x xs ys h e = cc
first_left (Some v) x xs ys h e = grind arith

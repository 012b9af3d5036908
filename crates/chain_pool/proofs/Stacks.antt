-- Stacks of cells: what a stack keeps while other cells change.
use Rattle.chain_pool.proofs.Common.{Memory, Owner, Owners, Free, Left, Right, values, IsOwned, Entry, ◌≡◌, ◌≢◌, ◌⊎◌, ℕ, zero, suc, ◌-◌, ◌<◌, cond, eqb, List, [], ◌∷◌, length, Some, refl, sym, ap, ◌∙◌, inl, inr, arith, cases_eq}

pub values-none : (h : Memory) (top : ℕ) → values h 0 top ≡ []
unfolding values
values-none h top = refl

pub values-more : (h : Memory) (n top next value : ℕ) → h top ≡ Some (Entry next value)
    → values h (suc n) top ≡ value ∷ values h n next
unfolding values
values-more h n top next value e = rw e refl

-- all cells but one keep their entries, and their owners
pub record Keeps (h h' : Memory) (o o' : Owners) (x : ℕ) : Type 0 where
  pub entries : (k next value : ℕ) → k ≢ x → h k ≡ Some (Entry next value) → h' k ≡ Some (Entry next value)
  pub owners : (k : ℕ) → k ≢ x → o' k ≡ o k

-- the lowest cells of a stack do not have this one among them
pub record IsLoose (h : Memory) (o : Owners) (s : Owner) (n x : ℕ) : Type 0 where
  pub off : (d next value : ℕ) → d < n → h x ≡ Some (Entry next value) → o x ≡ (s, d) → ⊥

IsLoose-less : (h : Memory) (o : Owners) (s : Owner) (n x : ℕ) → IsLoose h o s (suc n) x → IsLoose h o s n x
IsLoose-less h o s n x loose = record { off = λ d next value lt. loose.off d next value (omega arith) }

pub IsOwned-none : (h : Memory) (o : Owners) (s : Owner) (top : ℕ) → IsOwned h o s 0 top
unfolding IsOwned
IsOwned-none h o s top = tt

pub IsOwned-more : (h : Memory) (o : Owners) (s : Owner) (n top next value : ℕ) → h top ≡ Some (Entry next value) → o top ≡ (s, n)
    → IsOwned h o s n next → IsOwned h o s (suc n) top
unfolding IsOwned
IsOwned-more h o s n top next value e owner rest = (next, value, e, owner, rest)

-- the cell on top of a stack
pub record HasTop (h : Memory) (o : Owners) (s : Owner) (n top : ℕ) : Type 0 where
  pub next : ℕ
  pub value : ℕ
  pub entry : h top ≡ Some (Entry next value)
  pub owner : o top ≡ (s, n - 1)
  pub rest : IsOwned h o s (n - 1) next

pub IsOwned-top : (h : Memory) (o : Owners) (s : Owner) (n top : ℕ) → 0 < n → IsOwned h o s n top → HasTop h o s n top
unfolding IsOwned
IsOwned-top h o s zero top lt owned = absurd (omega arith)
IsOwned-top h o s (suc n) top lt owned = grind arith

pub IsOwned-kept : (h h' : Memory) (o o' : Owners) (x : ℕ) → Keeps h h' o o' x → (s : Owner) (n top : ℕ) → IsLoose h o s n x
    → IsOwned h o s n top → IsOwned h' o' s n top
unfolding IsOwned
IsOwned-kept h h' o o' x keeps s zero top loose owned = tt
IsOwned-kept h h' o o' x keeps s (suc n) top loose owned =
    let off : top ≢ x = λ e. loose.off n owned.0 owned.1 (omega arith) (ap h (sym e) ∙ owned.2) (ap o (sym e) ∙ owned.3) in (
      owned.0,
      owned.1,
      keeps.entries top owned.0 owned.1 off owned.2,
      keeps.owners top off ∙ owned.3,
      IsOwned-kept h h' o o' x keeps s n owned.0 (IsLoose-less h o s n x loose) owned.4,
    )

pub values-kept : (h h' : Memory) (o o' : Owners) (x : ℕ) → Keeps h h' o o' x → (s : Owner) (n top : ℕ) → IsLoose h o s n x
    → IsOwned h o s n top → values h' n top ≡ values h n top
unfolding IsOwned
values-kept h h' o o' x keeps s zero top loose owned = values-none h' top ∙ sym (values-none h top)
values-kept h h' o o' x keeps s (suc n) top loose owned =
    let off : top ≢ x = λ e. loose.off n owned.0 owned.1 (omega arith) (ap h (sym e) ∙ owned.2) (ap o (sym e) ∙ owned.3) in
    values-more h' n top owned.0 owned.1 (keeps.entries top owned.0 owned.1 off owned.2)
    ∙ ap (λ (l : List ℕ). owned.1 ∷ l) (values-kept h h' o o' x keeps s n owned.0 (IsLoose-less h o s n x loose) owned.4)
    ∙ sym (values-more h n top owned.0 owned.1 owned.2)

pub length-values : (h : Memory) (o : Owners) (s : Owner) (n top : ℕ) → IsOwned h o s n top → length (values h n top) ≡ n
unfolding IsOwned
length-values h o s zero top owned = ap (λ (l : List ℕ). length l) (values-none h top)
length-values h o s (suc n) top owned =
    ap (λ (l : List ℕ). length l) (values-more h n top owned.0 owned.1 owned.2)
    ∙ ap suc (length-values h o s n owned.0 owned.4)

-- owners with another one for one cell
abbrev pub owners_with : Owners → ℕ → Owner × ℕ → Owners
owners_with o x p k = cond (eqb k x) p (o k)

pub owners_with-here : (o : Owners) (x : ℕ) (p : Owner × ℕ) → owners_with o x p x ≡ p
owners_with-here o x p = grind arith

pub owners_with-others : (o : Owners) (x : ℕ) (p : Owner × ℕ) (k : ℕ) → k ≢ x → owners_with o x p k ≡ o k
owners_with-others o x p k ne = grind arith

name_of : Owner → ℕ
name_of Free = 0
name_of (Left c) = c
name_of (Right c) = c

-- two stacks are one, or not
pub owner_cases : (u s : Owner) → (u ≡ s) ⊎ (u ≢ s)
unfolding name_of
owner_cases Free Free = inl refl
owner_cases Free (Left d) = inr (λ e. cc)
owner_cases Free (Right d) = inr (λ e. cc)
owner_cases (Left c) Free = inr (λ e. cc)
owner_cases (Left c) (Left d) = elim (cases_eq c d) [ inl e ↦ inl (ap Left e) | inr ne ↦ inr (λ e. ne (ap name_of e)) ]
owner_cases (Left c) (Right d) = inr (λ e. cc)
owner_cases (Right c) Free = inr (λ e. cc)
owner_cases (Right c) (Left d) = inr (λ e. cc)
owner_cases (Right c) (Right d) = elim (cases_eq c d) [ inl e ↦ inl (ap Right e) | inr ne ↦ inr (λ e. ne (ap name_of e)) ]

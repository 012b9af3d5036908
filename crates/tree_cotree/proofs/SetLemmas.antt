-- Sets of numbers as tests: one number more, and sets with equal counts.
use Rattle.tree_cotree.proofs.Common.{◌≡◌, ◌≢◌, ◌⊎◌, inl, inr, ℕ, zero, suc, ◌+◌, ◌<◌, ◌≤◌, Bool, true, false, ◌||◌, eqb, refl, sym, ◌∙◌, subst, arith, cases_Bool, cases_lt, or_cases, or_left, or_right, both_ways, eqb-true, eq-eqb, count_below}
use Rattle.tree_cotree.proofs.ClassLemmas.{count_less}

-- the set with one number more
abbrev pub with_one : (ℕ → Bool) → ℕ → ℕ → Bool
with_one set e x = eqb x e || set x

pub with_itself : (set : ℕ → Bool) (e : ℕ) → with_one set e e ≡ true
with_itself set e = or_left (eqb e e) (set e) (eq-eqb e e refl)

pub with_other : (set : ℕ → Bool) (e x : ℕ) → x ≢ e → with_one set e x ≡ set x
with_other set e x ne = grind arith

pub with_keeps : (set : ℕ → Bool) (e x : ℕ) → set x ≡ true → with_one set e x ≡ true
with_keeps set e x h = or_right (eqb x e) (set x) h

pub with_cases : (set : ℕ → Bool) (e x : ℕ) → with_one set e x ≡ true → (x ≡ e) ⊎ (set x ≡ true)
with_cases set e x h = elim (or_cases (eqb x e) (set x) h) [ inl same ↦ inl (eqb-true x e same) | inr more ↦ inr more ]

pub count_with : (set : ℕ → Bool) (n e : ℕ) → e < n → set e ≡ false → count_below (with_one set e) n ≡ suc (count_below set n)
count_with set n e l h = count_less (with_one set e) set n e l (with_itself set e) h (λ x k ne. with_other set e x ne)

pub count_few : (p q : ℕ → Bool) (n : ℕ) → ((x : ℕ) → x < n → p x ≡ true → q x ≡ true) → count_below p n ≤ count_below q n
count_few p q zero h = omega arith
count_few p q (suc n) h =
    let before : count_below p n ≤ count_below q n = count_few p q n (λ x l is. h x (omega arith) is) in
    elim (cases_Bool (p n)) [
      | inl yes_p ↦ (let yes_q : q n ≡ true = h n (omega arith) yes_p in rw (yes_p, yes_q) (omega arith))
      | inr no_p ↦ grind arith
    ]

-- a set within another of the same count is that one
pub same_from_count : (p q : ℕ → Bool) (n : ℕ) → ((x : ℕ) → x < n → p x ≡ true → q x ≡ true) → count_below p n ≡ count_below q n → (x : ℕ)
    → x < n → p x ≡ q x
same_from_count p q zero h e x l = absurd (omega arith)
same_from_count p q (suc n) h e x l =
    let few : count_below p n ≤ count_below q n = count_few p q n (λ y k is. h y (omega arith) is) in
    elim (cases_Bool (p n)) [
      | inl yes_p ↦
          let yes_q : q n ≡ true = h n (omega arith) yes_p in
          let one : count_below p n + 1 ≡ count_below q n + 1 = rw (yes_p, yes_q) at e in
          elim (cases_lt x n) [
            | inl less ↦ same_from_count p q n (λ y k is. h y (omega arith) is) (omega arith) x less
            | inr more ↦ (let top : n ≡ x = omega arith in subst (λ (k : ℕ). p k ≡ q k) top (yes_p ∙ sym yes_q))
          ]
      | inr no_p ↦ elim (cases_Bool (q n)) [
        | inl yes_q ↦
            let one : count_below p n + 0 ≡ count_below q n + 1 = rw (no_p, yes_q) at e in
            absurd (omega arith)
        | inr no_q ↦
            let one : count_below p n + 0 ≡ count_below q n + 0 = rw (no_p, no_q) at e in
            elim (cases_lt x n) [
              | inl less ↦ same_from_count p q n (λ y k is. h y (omega arith) is) (omega arith) x less
              | inr more ↦ (let top : n ≡ x = omega arith in subst (λ (k : ℕ). p k ≡ q k) top (no_p ∙ sym no_q))
            ]
      ]
    ]

-- a number of the one set that is not in the other, or none
pub some_outside : (p q : ℕ → Bool) (n : ℕ) → ((x : ℕ) × (x < n) × (q x ≡ true) × (p x ≡ false))
    ⊎ ((x : ℕ) → x < n → q x ≡ true → p x ≡ true)
some_outside p q zero = inr (λ x l is. absurd (omega arith))
some_outside p q (suc n) = elim (some_outside p q n) [
  | inl found ↦ inl (found.0, omega (arith, found.1), found.2, found.3)
  | inr none ↦ elim (cases_Bool (q n)) [
    | inl yes_q ↦ elim (cases_Bool (p n)) [
      | inl yes_p ↦ grind arith
      | inr no_p ↦ inl (n, omega arith, yes_q, no_p)
    ]
    | inr no_q ↦ inr (λ x l is. elim (cases_lt x n) [
      | inl less ↦ none x less is
      | inr more ↦ (let top : n ≡ x = omega arith in absurd (both_ways (q x) (subst (λ (k : ℕ). q k ≡ false) top no_q) is))
    ])
  ]
]

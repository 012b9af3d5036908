-- Whole rounds: sums of equal numbers, rows that come round, and a search through one round.
use Rattle.joined_loops.proofs.Common.{◌≡◌, ℕ, ◌+◌, ◌-◌, ◌%◌, ◌<◌, ◌≤◌, ◌⊎◌, inl, inr, arith, refl, sym, ◌∙◌, ap, subst, zero, suc, cases_eq, cases_lt}

-- so many times a number
abbrev pub times : ℕ → ℕ → ℕ
times n zero = 0
times n (suc j) = times n j + n

pub times-more : (n m j : ℕ) → n ≤ m → times n j ≤ times m j
times-more n m zero h = omega arith
times-more n m (suc j) h = let before = times-more n m j h in omega arith

pub times-above : (n m j : ℕ) → n + 1 ≤ m → times n j + j ≤ times m j
times-above n m zero h = omega arith
times-above n m (suc j) h = let before = times-above n m j h in omega arith

pub times-some : (n j : ℕ) → 0 < n → j ≤ times n j
times-some n zero h = omega arith
times-some n (suc j) h = let before = times-some n j h in omega arith

pub times-add : (n j k : ℕ) → times n (j + k) ≡ times n j + times n k
times-add n j zero = let e : j + 0 ≡ j = omega arith in ap (times n) e ∙ (let f : times n j ≡ times n j + 0 = omega arith in f)
times-add n j (suc k) =
    let e : j + suc k ≡ suc (j + k) = omega arith in
    let before = times-add n j k in
    ap (times n) e ∙ (let f : times n (j + k) + n ≡ times n j + (times n k + n) = omega arith in f)

pub times-even : (n j : ℕ) → n % 2 ≡ 0 → times n j % 2 ≡ 0
times-even n zero e = refl
times-even n (suc j) e = let before = times-even n j e in omega arith

module _ (row : ℕ → ℕ) (n : ℕ) (round : (k : ℕ) → row (k + n) ≡ row k) where
  pub later-rounds : (k j : ℕ) → row (k + times n j) ≡ row k
  later-rounds k zero = let e : k + 0 ≡ k = omega arith in ap row e
  later-rounds k (suc j) =
      let e : k + (times n j + n) ≡ k + times n j + n = omega arith in
      ap row e ∙ round (k + times n j) ∙ later-rounds k j

  -- what holds in the round behind the first entry holds everywhere
  pub everywhere : (P : ℕ → Type 0) → 0 < n → ((k : ℕ) → k < n → P (row (1 + k))) → (at : ℕ) → P (row at)
  everywhere P some h at = go (suc at) at (omega arith)
    where
      go : (fuel at : ℕ) → at < fuel → P (row at)
      go zero at below = absurd (omega arith)
      go (suc fuel) at below = elim (cases_eq at 0) [
        | inl first ↦
            let e : 1 + (n - 1) ≡ 0 + n = omega arith in
            let f : 0 ≡ at = omega arith in
            subst P (ap row e ∙ round 0 ∙ ap row f) (h (n - 1) (omega arith))
        | inr later ↦ elim (cases_lt (at - 1) n) [
          | inl inside ↦ let e : 1 + (at - 1) ≡ at = omega arith in subst P (ap row e) (h (at - 1) inside)
          | inr far ↦ let e : at - n + n ≡ at = omega arith in subst P (sym (round (at - n)) ∙ ap row e) (go fuel (at - n) (omega arith))
        ]
      ]

-- a search below a bound
pub find : (P : ℕ → Type 0) → ((k : ℕ) → P k ⊎ (P k → ⊥)) → (count : ℕ) →
    ((k : ℕ) × (k < count) × P k) ⊎ ((k : ℕ) → k < count → P k → ⊥)
find P decides zero = inr (λ k below h. absurd (omega arith))
find P decides (suc count) = elim (find P decides count) [
  | inl found ↦ inl (found.0, (let below = found.1 in omega arith), found.2)
  | inr none ↦ elim (decides count) [
    | inl here ↦ inl (count, omega arith, here)
    | inr not_here ↦ inr (λ k below h. elim (cases_eq k count) [
      | inl e ↦ not_here (subst P e h)
      | inr other ↦ none k (omega arith) h
    ])
  ]
]

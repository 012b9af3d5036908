-- A permutation of the numbers below n that reaches all of them from one: n steps lead round, and fewer do not.
use Rattle.polygon_cut.proofs.Common.{IsPermutationBelow, AreAlike, two_alike, Returns, returns_to, step_first, steps_add, steps_within, after_steps, IsReached, ◌≡◌, ◌≢◌, ◌⊎◌, inl, inr, ℕ, zero, suc, ◌+◌, ◌-◌, ◌<◌, ◌≤◌, ap, sym, ◌∙◌, arith, cases_eq, cases_lt, reached_soon}

-- where all numbers are reached from x, it takes as many steps to come back as there are numbers
pub whole_round : {degree : ℕ} {f : ℕ → ℕ} → IsPermutationBelow degree f → (x : ℕ) → ((j : ℕ) → j < degree → IsReached f x j)
    → (n : ℕ) → n < degree → after_steps f n (f x) ≡ x → suc n ≡ degree
whole_round {degree} {f} p x all n few back = elim (cases_eq (suc n) degree) [
  | inl same ↦ same
  | inr less ↦ absurd (clash (two_alike (degree - 1) place (λ i l. placed_below less i (omega arith))))
]
  where
    -- in at most n steps every number is reached
    soon : (fuel k j : ℕ) → k < fuel → after_steps f k x ≡ j → (m : ℕ) × (m < suc n) × (after_steps f m x ≡ j)
    soon zero k j l e = absurd (omega arith)
    soon (suc fuel) k j l e = elim (cases_lt k (suc n)) [
      | inl less ↦ (k, less, e)
      | inr more ↦
          let sum : k - suc n + suc n ≡ k = omega arith in
          let round : after_steps f (suc n) x ≡ x = sym (step_first f n x) ∙ back in
          let shorter : after_steps f (k - suc n) x ≡ j =
          ap (after_steps f (k - suc n)) (sym round) ∙ sym (steps_add f (k - suc n) (suc n) x) ∙ ap (λ (m : ℕ). after_steps f m x) sum
          ∙ e in
          soon fuel (k - suc n) j (omega arith) shorter
    ]

    found : (j : ℕ) → j < degree → (m : ℕ) × (m < suc n) × (after_steps f m x ≡ j)
    found j l = let r = all j l in soon (suc r.steps) r.steps j (omega arith) r.leads

    at : (j : ℕ) → (j < degree) ⊎ (degree ≤ j) → ℕ
    at j (inl l) = (found j l).0
    at j (inr _) = 0

    at_leads : (j : ℕ) (c : (j < degree) ⊎ (degree ≤ j)) → j < degree → (at j c < suc n) × (after_steps f (at j c) x ≡ j)
    at_leads j (inl l) k = ((found j l).1, (found j l).2)
    at_leads j (inr m) k = absurd (omega arith)

    place : ℕ → ℕ
    place j = at j (cases_lt j degree)

    placed : (j : ℕ) → j < degree → (place j < suc n) × (after_steps f (place j) x ≡ j)
    placed j l = at_leads j (cases_lt j degree) l

    placed_below : suc n ≢ degree → (j : ℕ) → j < degree → place j < degree - 1
    placed_below less j l = let one : place j < suc n = (placed j l).0 in omega arith

    clash : AreAlike place (suc (degree - 1)) → ⊥
    clash a =
        let i_in : a.first < degree = omega (arith, a.before, a.within) in
        let j_in : a.second < degree = omega (arith, a.within) in
        let same : a.first ≡ a.second = sym (placed a.first i_in).1 ∙ ap (λ (m : ℕ). after_steps f m x) a.same ∙ (placed a.second j_in).1 in
        omega (arith, a.before, same)

-- all numbers below n are reached from x
pub record GoesRound (n : ℕ) (f : ℕ → ℕ) (x : ℕ) : Type 0 where
  pub permutes : IsPermutationBelow n f
  pub start : x < n
  pub all : (j : ℕ) → j < n → IsReached f x j

pub round_home : {n : ℕ} {f : ℕ → ℕ} {x : ℕ} → GoesRound n f x → after_steps f n x ≡ x
round_home {n} {f} {x} h =
    let r : Returns n f x = returns_to n f h.permutes x h.start in
    let period : suc r.less ≡ n = whole_round h.permutes x h.all r.less r.few r.back in
    ap (λ (m : ℕ). after_steps f m x) (sym period) ∙ sym (step_first f r.less x) ∙ r.back

-- equal places, traced back to the start
traced_back : {n : ℕ} {f : ℕ → ℕ} {x : ℕ} → GoesRound n f x → (k d : ℕ) → after_steps f k x ≡ after_steps f (k + d) x
    → x ≡ after_steps f d x
traced_back {f} {x} h zero d e = e ∙ ap (λ (m : ℕ). after_steps f m x) (let s : 0 + d ≡ d = omega arith in s)
traced_back {n} {f} {x} h (suc k) d e =
    let within : (m : ℕ) → after_steps f m x < n = λ m. steps_within n f h.permutes m x h.start in
    traced_back h k d (h.permutes.injective (after_steps f k x) (after_steps f (k + d) x) (within k) (within (k + d))
    (e ∙ ap (λ (m : ℕ). after_steps f m x) (let s : suc k + d ≡ suc (k + d) = omega arith in s)))

pub round_apart : {n : ℕ} {f : ℕ → ℕ} {x : ℕ} → GoesRound n f x → (k m : ℕ) → k < m → m < n → after_steps f k x ≡ after_steps f m x → ⊥
round_apart {n} {f} {x} h k m l b e =
    let sum : m ≡ k + (m - k) = omega (arith, l) in
    let home : x ≡ after_steps f (m - k) x = traced_back h k (m - k) (e ∙ ap (λ (i : ℕ). after_steps f i x) sum) in
    let one : suc (m - k - 1) ≡ m - k = omega (arith, l) in
    let back : after_steps f (m - k - 1) (f x) ≡ x = step_first f (m - k - 1) x ∙ ap (λ (i : ℕ). after_steps f i x) one ∙ sym home in
    let period : suc (m - k - 1) ≡ n = whole_round h.permutes x h.all (m - k - 1) (omega (arith, l, b)) back in
    omega (arith, period, one, l, b)

pub round_reaches : {n : ℕ} {f : ℕ → ℕ} {x : ℕ} → GoesRound n f x → (y : ℕ) → y < n → (k : ℕ) × (k < n) × (after_steps f k x ≡ y)
round_reaches {n} {f} {x} h y l =
    let r = h.all y l in
    reached_soon n f h.permutes x h.start (suc r.steps) r.steps y (omega arith) r.leads

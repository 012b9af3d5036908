-- Orbits of a map that is injective on the numbers below n: each number comes back to itself, so what reaches is reached.
use Rattle.halfedge_map.proofs.Common.{after_steps, IsReached, ◌≡◌, ◌≢◌, ◌⊎◌, inl, inr, ℕ, zero, suc, ◌+◌, ◌-◌, ◌<◌, Bool, true, false, cond, eqb, refl, ap, sym, ◌∙◌, subst, arith, cases_Bool, cases_lt, cond-true, cond-false, eqb-true, eq-eqb, both_ways}

-- a number below n that passes a test, or none does
search_below : (p : ℕ → Bool) (n : ℕ) → ((i : ℕ) × (i < n) × (p i ≡ true)) ⊎ ((i : ℕ) → i < n → p i ≡ false)
search_below p zero = inr (λ i l. absurd (omega arith))
search_below p (suc n) =
    elim (cases_Bool (p n)) [
      | inl passes ↦ inl (n, omega arith, passes)
      | inr fails ↦ elim (search_below p n) [
        | inl found ↦ inl (found.0, omega (arith, found.1), found.2)
        | inr none ↦ inr (λ i l. elim (cases_lt i n) [
          | inl less ↦ none i less
          | inr more ↦ (let same : i ≡ n = omega arith in subst (λ k. p k ≡ false) (sym same) fails)
        ])
      ]
    ]

-- two places below a bound with one value
pub record AreAlike (g : ℕ → ℕ) (n : ℕ) : Type 0 where
  pub first : ℕ
  pub second : ℕ
  pub before : first < second
  pub within : second < n
  pub same : g first ≡ g second

-- n numbers of which each is below n - 1 are not all different
pub two_alike : (n : ℕ) (g : ℕ → ℕ) → ((i : ℕ) → i < suc n → g i < n) → AreAlike g (suc n)
two_alike zero g small = absurd (omega (arith, small 0 (omega arith)))
two_alike (suc n) g small =
    elim (search_below (λ i. eqb (g i) (g (suc n))) (suc n)) [
      | inl found ↦ record { first = found.0; second = suc n; before = found.1; within = omega arith; same = eqb-true _ _ found.2 }
      | inr none ↦
          (let other : (i : ℕ) → i < suc n → g i ≢ g (suc n) = λ i l e. both_ways (eqb (g i) (g (suc n))) (none i l) (eq-eqb _ _ e) in
          let h : ℕ → ℕ = λ i. cond (eqb (g i) n) (g (suc n)) (g i) in
          let h_top : (i : ℕ) → g i ≡ n → h i ≡ g (suc n) = λ i e. cond-true (eqb (g i) n) (g (suc n)) (g i) (eq-eqb _ _ e) in
          let h_low : (i : ℕ) → (eqb (g i) n ≡ false) → h i ≡ g i = λ i e. cond-false (eqb (g i) n) (g (suc n)) (g i) e in
          let h_small : (i : ℕ) → i < suc n → h i < n = λ i l. elim (cases_Bool (eqb (g i) n)) [
            | inl top ↦
                (let is : g i ≡ n = eqb-true _ _ top in
                let ne : g i ≢ g (suc n) = other i l in
                omega (arith, h_top i is, small (suc n) (omega arith)))
            | inr low ↦
                (let ne : g i ≢ n = λ e. both_ways (eqb (g i) n) low (eq-eqb _ _ e) in
                omega (arith, h_low i low, small i (omega arith)))
          ] in
          let rest : AreAlike h (suc n) = two_alike n h h_small in
          let i : ℕ = rest.first in
          let j : ℕ = rest.second in
          let i_in : i < suc n = omega (arith, rest.before, rest.within) in
          let same : g i ≡ g j = grind arith in
          record { first = i; second = j; before = rest.before; within = omega (arith, rest.within); same = same })
    ]

-- a map of the numbers below n to themselves that takes no two of them to one
pub record IsPermutationBelow (n : ℕ) (f : ℕ → ℕ) : Type 0 where
  pub within : (x : ℕ) → x < n → f x < n
  pub injective : (x y : ℕ) → x < n → y < n → f x ≡ f y → x ≡ y

pub steps_within : (n : ℕ) (f : ℕ → ℕ) → IsPermutationBelow n f → (k x : ℕ) → x < n → after_steps f k x < n
steps_within n f h zero x l = l
steps_within n f h (suc k) x l = h.within (after_steps f k x) (steps_within n f h k x l)

pub step_first : (f : ℕ → ℕ) (k x : ℕ) → after_steps f k (f x) ≡ f (after_steps f k x)
step_first f zero x = refl
step_first f (suc k) x = ap f (step_first f k x)

pub steps_add : (f : ℕ → ℕ) (j k x : ℕ) → after_steps f (j + k) x ≡ after_steps f j (after_steps f k x)
steps_add f zero k x = ap (λ m. after_steps f m x) (let e : 0 + k ≡ k = omega arith in e)
steps_add f (suc j) k x = ap (λ m. after_steps f m x) (let e : suc j + k ≡ suc (j + k) = omega arith in e) ∙ ap f (steps_add f j k x)

pub reached_refl : (f : ℕ → ℕ) (x : ℕ) → IsReached f x x
reached_refl f x = record { steps = 0; leads = refl }

pub reached_step : (f : ℕ → ℕ) (x : ℕ) → IsReached f x (f x)
reached_step f x = record { steps = 1; leads = refl }

pub reached_trans : (f : ℕ → ℕ) (x y z : ℕ) → IsReached f x y → IsReached f y z → IsReached f x z
reached_trans f x y z h k = record {
  steps = k.steps + h.steps;
  leads = grind (arith, steps_add);
}

-- what is kept by each step is kept along an orbit
pub reached_keeps : (n : ℕ) (f : ℕ → ℕ) (g : ℕ → ℕ) → IsPermutationBelow n f → ((x : ℕ) → x < n → g (f x) ≡ g x) → (x y : ℕ) → x < n
    → IsReached f x y → g y ≡ g x
reached_keeps n f g h keeps x y l r = ap g (sym r.leads) ∙ go r.steps
  where
    go : (k : ℕ) → g (after_steps f k x) ≡ g x
    go zero = refl
    go (suc k) = keeps (after_steps f k x) (steps_within n f h k x l) ∙ go k

-- equal places of an orbit, traced back to its start
strip : (n : ℕ) (f : ℕ → ℕ) (x i d : ℕ) → IsPermutationBelow n f → x < n → after_steps f i x ≡ after_steps f (i + d) x
    → x ≡ after_steps f d x
strip n f x zero d h l e = e ∙ ap (λ m. after_steps f m x) (let s : 0 + d ≡ d = omega arith in s)
strip n f x (suc i) d h l e =
    strip n f x i d h l
    (h.injective (after_steps f i x) (after_steps f (i + d) x) (steps_within n f h i x l) (steps_within n f h (i + d) x l)
    (e ∙ ap (λ m. after_steps f m x) (let s : suc i + d ≡ suc (i + d) = omega arith in s)))

-- each number comes back to itself, after one step at least and n at most
pub record Returns (n : ℕ) (f : ℕ → ℕ) (x : ℕ) : Type 0 where
  pub less : ℕ
  pub few : less < n
  pub back : after_steps f less (f x) ≡ x

pub returns_to : (n : ℕ) (f : ℕ → ℕ) → IsPermutationBelow n f → (x : ℕ) → x < n → Returns n f x
returns_to n f h x l =
    let alike : AreAlike (λ i. after_steps f i x) (suc n) = two_alike n (λ i. after_steps f i x) (λ i _. steps_within n f h i x l) in
    let i : ℕ = alike.first in
    let d : ℕ = alike.second - alike.first in
    let sum : alike.second ≡ i + d = omega (arith, alike.before) in
    let one : suc (d - 1) ≡ d = omega (arith, alike.before) in
    record {
      less = d - 1;
      few = omega (arith, alike.before, alike.within);
      back =
          step_first f (d - 1) x ∙ ap (λ m. after_steps f m x) one
          ∙ sym (strip n f x i d h l (alike.same ∙ ap (λ m. after_steps f m x) sum));
    }

pub reached_back : (n : ℕ) (f : ℕ → ℕ) → IsPermutationBelow n f → (x y : ℕ) → x < n → IsReached f x y → IsReached f y x
reached_back n f h x y l r = subst (λ z. IsReached f z x) r.leads (go r.steps)
  where
    go : (k : ℕ) → IsReached f (after_steps f k x) x
    go zero = reached_refl f x
    go (suc k) =
        let z : ℕ = after_steps f k x in
        let round : Returns n f z = returns_to n f h z (steps_within n f h k x l) in
        reached_trans f (f z) z x (record { steps = round.less; leads = round.back }) (go k)

-- a map that undoes the steps of another reaches back
pub reached_undone : (n : ℕ) (f g : ℕ → ℕ) → IsPermutationBelow n f → ((x : ℕ) → x < n → g (f x) ≡ x) → (x y : ℕ) → x < n
    → IsReached f x y → IsReached g y x
reached_undone n f g h undoes x y l r = subst (λ z. IsReached g z x) r.leads (go r.steps)
  where
    go : (k : ℕ) → IsReached g (after_steps f k x) x
    go zero = reached_refl g x
    go (suc k) =
        let z : ℕ = after_steps f k x in
        reached_trans g (f z) z x (record { steps = 1; leads = undoes z (steps_within n f h k x l) }) (go k)

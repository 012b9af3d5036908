-- Closed lists that are gone along again and again.
use Rattle.spoke_rings.proofs.Common.{spoke_along, ◌≡◌, ℕ, ◌+◌, ◌-◌, ◌<◌, ◌≤◌, inl, inr, arith, sym, ◌∙◌, ap, zero, suc, List, ◌++◌, take, drop, length, get_or, add-mod_right, mod-eq_of_lt, cases_lt, common_steps}

pub along-first : (s : List ℕ) (k : ℕ) → k < length s → spoke_along s k ≡ get_or s k 0
along-first s k below = ap (λ i. get_or s i 0) (mod-eq_of_lt below)

pub along-round : (s : List ℕ) (k : ℕ) → spoke_along s (k + length s) ≡ spoke_along s k
along-round s k = ap (λ i. get_or s i 0) (add-mod_right k (length s))

pub along-second : (s : List ℕ) (k : ℕ) → length s ≤ k → k < length s + length s → spoke_along s k ≡ get_or s (k - length s) 0
along-second s k far below = grind (arith, along-round, along-first)

-- two rows of one period that agree for one round agree
same-from : (f g : ℕ → ℕ) (n : ℕ) → 0 < n → ((k : ℕ) → f (k + n) ≡ f k) → ((k : ℕ) → g (k + n) ≡ g k) →
    ((k : ℕ) → k < n → f k ≡ g k) → (fuel k : ℕ) → k < fuel → f k ≡ g k
same-from f g n some fr gr h zero k below = absurd (omega arith)
same-from f g n some fr gr h (suc fuel) k below = elim (cases_lt k n) [
  | inl inside ↦ h k inside
  | inr above ↦
      let e : k ≡ k - n + n = omega arith in
      let less : k - n < fuel = omega arith in
      ap f e ∙ fr (k - n) ∙ same-from f g n some fr gr h fuel (k - n) less ∙ sym (ap g e ∙ gr (k - n))
]

pub same-rows : (f g : ℕ → ℕ) (n : ℕ) → 0 < n → ((k : ℕ) → f (k + n) ≡ f k) → ((k : ℕ) → g (k + n) ≡ g k) →
    ((k : ℕ) → k < n → f k ≡ g k) → (k : ℕ) → f k ≡ g k
same-rows f g n some fr gr h k = let less : k < suc k = omega arith in same-from f g n some fr gr h (suc k) k less

-- a list from another start
abbrev pub rotated : ℕ → List ℕ → List ℕ
rotated c s = drop c s ++ take c s

pub rotated-length : (s : List ℕ) (c : ℕ) → c ≤ length s → length (rotated c s) ≡ length s
rotated-length s c within = grind (arith, common_steps)

pub rotated-at : (s : List ℕ) (c k : ℕ) → c ≤ length s → k < length s → get_or (rotated c s) k 0 ≡ spoke_along s (k + c)
rotated-at s c k within below = grind (arith, common_steps, along-first, along-second)

pub rotated-along : (s : List ℕ) (c : ℕ) → c ≤ length s → 0 < length s → (k : ℕ) → spoke_along (rotated c s) k ≡ spoke_along s (k + c)
rotated-along s c within some =
    let long = rotated-length s c within in
    same-rows (spoke_along (rotated c s)) (λ k. spoke_along s (k + c)) (length s) some
    (λ k. ap (λ n. spoke_along (rotated c s) (k + n)) (sym long) ∙ along-round (rotated c s) k)
    (λ k. (let e : k + length s + c ≡ k + c + length s = omega arith in ap (spoke_along s) e ∙ along-round s (k + c)))
    (λ k below. (let less : k < length (rotated c s) = omega arith in
    along-first (rotated c s) k less ∙ rotated-at s c k within below))

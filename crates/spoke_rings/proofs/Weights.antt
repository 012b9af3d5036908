-- The sum of the turns of a ring: it stays where the ring is gone on along, and a push up makes it less.
use Rattle.spoke_rings.proofs.Common.{turns_sum, TurnsPushed, ◌≡◌, ℕ, ◌+◌, ◌-◌, ◌*◌, ◌%◌, ◌<◌, ◌≤◌, inl, inr, arith, refl, sym, ◌∙◌, ap, zero, suc, true, mul-le-mul_right, cases_eq, add-cases, minus-one, add, minus}

pub sum-same : (f g : ℕ → ℕ) → ((k : ℕ) → f k ≡ g k) → (n : ℕ) → turns_sum f n ≡ turns_sum g n
sum-same f g same zero = refl
sum-same f g same (suc n) = let before = sum-same f g same n in let last = same n in omega arith

sum-shifted : (f : ℕ → ℕ) (n : ℕ) → turns_sum (λ k. f (k + 1)) n + f 0 ≡ turns_sum f n + f n
sum-shifted f zero = refl
sum-shifted f (suc n) =
    let before = sum-shifted f n in
    let e : n + 1 ≡ suc n = omega arith in
    let last = ap f e in
    omega arith

-- one place further the sum is the same
pub sum-forward : (f g : ℕ → ℕ) (n : ℕ) → ((k : ℕ) → f (k + n) ≡ f k) → ((k : ℕ) → g k ≡ f (k + 1)) → turns_sum g n ≡ turns_sum f n
sum-forward f g n round is =
    let all = sum-same g (λ k. f (k + 1)) is n in
    let shifted = sum-shifted f n in
    let e : 0 + n ≡ n = omega arith in
    let again = ap f (sym e) ∙ round 0 in
    omega arith

-- and one place back
pub sum-back : (f g : ℕ → ℕ) (n : ℕ) → 0 < n → ((k : ℕ) → f (k + n) ≡ f k) → ((k : ℕ) → g (k + n) ≡ g k) → ((k : ℕ) →
    g k ≡ f (k + (n - 1))) →
    turns_sum g n ≡ turns_sum f n
sum-back f g n some f_round g_round is = grind (arith, sum-forward)

pub sum-bound : (f : ℕ → ℕ) (d n : ℕ) → ((k : ℕ) → f k < d) → turns_sum f n ≤ n * d
sum-bound f d zero below = omega arith
sum-bound f d (suc n) below = let before = sum-bound f d n below in let last = below n in grind arith

module _ (d n : ℕ) (old new : ℕ → ℕ) (five : 5 ≤ d) (even : n % 2 ≡ 0) (p : TurnsPushed d n true old new) (minus_one : old 0 ≡ minus d 1)
  where
    first-turns : (k : ℕ) → k + 3 ≤ n → turns_sum new (2 + k) + (d - 3) ≤ turns_sum old (2 + k)
    first-turns zero within =
        let one = minus-one d five in
        let seam = p.seam in
        let behind = p.behind (omega arith) in
        let sum = add-cases d (old 1) 1 in
        omega arith
    first-turns (suc k) within =
        let before = first-turns k (omega arith) in
        let e : 2 + suc k ≡ suc (2 + k) = omega arith in
        let same = p.far (2 + k) (omega arith) (omega arith) in
        let new_sum = ap (turns_sum new) e in
        let old_sum = ap (turns_sum old) e in
        omega arith

    -- a push up makes the sum less
    pub push-lighter : 2 ≤ n → turns_sum new n < turns_sum old n
    push-lighter two = elim (cases_eq n 2) [
      | inl is ↦
          let one = minus-one d five in
          let seam = p.seam in
          let other = p.other is in
          let first = add-cases d (old 1) 1 in
          let second = add-cases d (add d (old 1) 1) 1 in
          let new_sum = ap (turns_sum new) is in
          let old_sum = ap (turns_sum old) is in
          omega arith
      | inr more ↦
          let before = first-turns (n - 3) (omega arith) in
          let e : n ≡ suc (2 + (n - 3)) = omega arith in
          let new_sum = ap (turns_sum new) e in
          let old_sum = ap (turns_sum old) e in
          let f : 2 + (n - 3) ≡ n - 1 = omega arith in
          let new_last = ap new f in
          let old_last = ap old f in
          let last = p.before (omega arith) in
          let sum = add-cases d (old (n - 1)) 1 in
          omega arith
    ]

-- what goes down where the ring becomes shorter or lighter, or is gone on along
pub weight : ℕ → ℕ → ℕ → ℕ → ℕ → ℕ
weight most d n sum passed = (n * (most * d + 1) + sum) * (most + 1) + (n - passed)

lower : (most a b n p left : ℕ) → a < b → n ≤ most → a * (most + 1) + (n - p) < b * (most + 1) + left
lower most a b n p left less within = grind arith

pub weight-passed : (most d n sum passed : ℕ) → passed < n → weight most d n sum (passed + 1) < weight most d n sum passed
unfolding weight
weight-passed most d n sum passed below = omega arith

pub weight-lighter : (most d n sum sum' passed : ℕ) → n ≤ most → sum' < sum → weight most d n sum' 0 < weight most d n sum passed
unfolding weight
weight-lighter most d n sum sum' passed within less = grind (arith, lower)

pub weight-shorter : (most d n n' sum sum' passed : ℕ) → n ≤ most → n' < n → sum' ≤ n' * d →
    weight most d n' sum' 0 < weight most d n sum passed
unfolding weight
weight-shorter most d n n' sum sum' passed within shorter bound =
    let far = mul-le-mul_right d (let w : n' ≤ most = omega arith in w) in
    let up : n' + 1 ≤ n = omega arith in
    let times = mul-le-mul_right (most * d + 1) up in
    let expand : (n' + 1) * (most * d + 1) ≡ n' * (most * d + 1) + (most * d + 1) = grind arith in
    lower most (n' * (most * d + 1) + sum') (n * (most * d + 1) + sum) n' 0 (n - passed) (omega arith) (omega arith)

-- Whole numbers: the product and the sum.
use Rattle.homology.proofs.Common.{◌≡◌, ℕ, zero, suc, ap, ap₂, ◌∙◌, arith, ℤ, pos, negsuc, ◌+ℤ◌, ◌-ℤ◌, one, suc_ℤ-+ℤ, pred_ℤ-+ℤ, suc_ℤ-*ℤ, pred_ℤ-*ℤ, *ℤ_comm, zero-*ℤ, *ℤ-one, *ℤ-negsuc, ints, ◌*ℤ◌, neg_ℤ}

-- by induction on the first number
pub sum-times : (a b c : ℤ) → (a +ℤ b) *ℤ c ≡ a *ℤ c +ℤ b *ℤ c
sum-times (pos n) b c = up n
  where
    up : (n : ℕ) → (pos n +ℤ b) *ℤ c ≡ pos n *ℤ c +ℤ b *ℤ c
    up zero = grind arith
    up (suc n) =
        let whole = up n in
        ap (λ x. x *ℤ c) (suc_ℤ-+ℤ (pos n) b) ∙ suc_ℤ-*ℤ (pos n +ℤ b) c ∙ omega (arith, ints, suc_ℤ-*ℤ (pos n) c, whole)
sum-times (negsuc n) b c = down n
  where
    down : (n : ℕ) → (negsuc n +ℤ b) *ℤ c ≡ negsuc n *ℤ c +ℤ b *ℤ c
    down zero =
        let e : pos 0 +ℤ b ≡ b = omega (arith, ints) in
        ap (λ x. x *ℤ c) (pred_ℤ-+ℤ (pos 0) b) ∙ pred_ℤ-*ℤ (pos 0 +ℤ b) c ∙ ap (λ x. x *ℤ c -ℤ c) e
        ∙ omega (arith, ints, pred_ℤ-*ℤ (pos 0) c, zero-*ℤ c)
    down (suc n) =
        let whole = down n in
        ap (λ x. x *ℤ c) (pred_ℤ-+ℤ (negsuc n) b) ∙ pred_ℤ-*ℤ (negsuc n +ℤ b) c ∙ omega (arith, ints, pred_ℤ-*ℤ (negsuc n) c, whole)

pub times-sum : (a b c : ℤ) → a *ℤ (b +ℤ c) ≡ a *ℤ b +ℤ a *ℤ c
times-sum a b c = *ℤ_comm a (b +ℤ c) ∙ sum-times b c a ∙ ap₂ (λ x y. x +ℤ y) (*ℤ_comm b a) (*ℤ_comm c a)

-- a number and its opposite add up to nothing
pub times-opposite : (a b : ℤ) → a *ℤ neg_ℤ b ≡ neg_ℤ (a *ℤ b)
times-opposite a b = grind (arith, times-sum)

pub opposite-times : (a b : ℤ) → neg_ℤ a *ℤ b ≡ neg_ℤ (a *ℤ b)
opposite-times a b = *ℤ_comm (neg_ℤ a) b ∙ times-opposite b a ∙ ap neg_ℤ (*ℤ_comm b a)

pub times-one : (a : ℤ) → a *ℤ pos 1 ≡ a
unfolding one
times-one a = *ℤ-one a

pub one-times : (a : ℤ) → pos 1 *ℤ a ≡ a
one-times a = *ℤ_comm (pos 1) a ∙ times-one a

pub times-minus : (a : ℤ) → a *ℤ negsuc 0 ≡ neg_ℤ a
times-minus a = *ℤ-negsuc a 0 ∙ ap neg_ℤ (times-one a)

pub minus-times : (a : ℤ) → negsuc 0 *ℤ a ≡ neg_ℤ a
minus-times a = *ℤ_comm (negsuc 0) a ∙ times-minus a

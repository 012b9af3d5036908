-- What fails nowhere at a first place fails nowhere; and what is least is one.
use Rattle.connectivity.proofs.Common.{IsLeastPinch, ◌≡◌, ◌⊎◌, inl, inr, ℕ, zero, suc, ◌<◌, Bool, true, ap, sym, subst, arith, Result, Ok, Err, cases_lt, cases_order, OnOk, IfErr, IsPairBefore, FaceList, VertexName}

-- what holds below n and at n holds up to n
pub up_to : (P : ℕ → Type 0) (n : ℕ) → ((k : ℕ) → k < n → P k) → P n → (k : ℕ) → k < suc n → P k
up_to P n below here k l =
    elim (cases_lt k n) [
      | inl less ↦ below k less
      | inr more ↦ let same : n ≡ k = omega arith in subst P same here
    ]

-- what holds of a pair where it holds of all pairs before it holds of all
module _ (P : ℕ → ℕ → Type 0) (next : (a b : ℕ) → ((x y : ℕ) → IsPairBefore x y a b → P x y) → P a b) where
  in_row : (a : ℕ) → ((x : ℕ) → x < a → (b : ℕ) → P x b) → (m b : ℕ) → b < m → P a b
  in_row a above zero b l = absurd (omega arith)
  in_row a above (suc m) b l =
      up_to (P a) m (in_row a above m)
      (next a m (λ x y before.
      elim before [
        | inl less ↦ above x less y
        | inr same ↦ subst (λ z. P z y) (sym same.0) (in_row a above m y same.1)
      ])) b l

  in_rows : (n a : ℕ) → a < n → (b : ℕ) → P a b
  in_rows zero a l b = absurd (omega arith)
  in_rows (suc n) a l b = up_to (λ x. (y : ℕ) → P x y) n (in_rows n) (λ y. in_row n (in_rows n) (suc y) y (omega arith)) a l b

  pub no_first_pair : (a b : ℕ) → P a b
  no_first_pair a b = in_rows (suc a) a (omega arith) b

-- where no used number is the first at which P fails, it fails at none, in that it cannot fail
pub no_first_used : (used : ℕ → Bool) (P : ℕ → Type 0)
    → ((n : ℕ) → used n ≡ true → (P n → ⊥) → ((w : ℕ) → w < n → used w ≡ true → P w) → ⊥)
    → (n : ℕ) → (((w : ℕ) → w < n → used w ≡ true → P w) → ⊥) → ⊥
no_first_used used P first zero k = k (λ w l. absurd (omega arith))
no_first_used used P first (suc n) k =
    no_first_used used P first n
    (λ below.
    let all : (used n ≡ true → P n) → ⊥ = λ here. k (up_to (λ w. used w ≡ true → P w) n below here) in
    all (λ is. absurd (first n is (λ holds. all (λ u. holds)) below)))

pub same_name : (v w : VertexName) → v.0 ≡ w.0 → v ≡ w
same_name v w h = let name : ℕ → VertexName = λ x. record { 0 = x } in ap name h

-- numbers and pairs of which neither comes before the other
pub equal : (v w : ℕ) → (v < w → ⊥) → (w < v → ⊥) → v ≡ w
equal v w not_less not_more =
    elim (cases_order v w) [
      | inl same ↦ same
      | inr apart ↦ elim apart [ inl less ↦ absurd (not_less less) | inr more ↦ absurd (not_more more) ]
    ]

pub equal_pairs : (a b c d : ℕ) → (IsPairBefore a b c d → ⊥) → (IsPairBefore c d a b → ⊥) → (a ≡ c) × (b ≡ d)
equal_pairs a b c d not_less not_more =
    let first : a ≡ c = equal a c (λ less. not_less (inl less)) (λ more. not_more (inl more)) in
    (first, equal b d (λ less. not_less (inr (first, less))) (λ more. not_more (inr (sym first, more))))

pub one_pinch : (mesh : FaceList) (v w : ℕ) → IsLeastPinch mesh v → IsLeastPinch mesh w → v ≡ w
one_pinch mesh v w h k = equal v w (λ less. h.pinched (k.least v less h.used)) (λ more. k.pinched (h.least w more k.used))

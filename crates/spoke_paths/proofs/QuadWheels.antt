-- Where from each spoke a quad leads to one at the place before, each place is that of a spoke.
use Rattle.spoke_paths.proofs.Common.{◌≡◌, ℕ, zero, suc, ◌+◌, ◌-◌, ◌<◌, ap, ◌∙◌, arith, add-cases, minus-cases, minus-lt, zero-add, add, minus}
use Rattle.spoke_paths.proofs.WordsKeep.{add_back}

-- a spoke of the wheel with this place
abbrev pub HasPlace : ℕ → (ℕ → ℕ) → ℕ → ℕ → Type 0
HasPlace d place x p = (p < d) × (place p ≡ x)

module _ (d : ℕ) (place : ℕ → ℕ) (large : 1 < d) (inside : (i : ℕ) → i < d → place i < d)
    (before : (i : ℕ) → i < d → (p : ℕ) × HasPlace d place (add d (place i) (minus d 1)) p) where
  lower : (x : ℕ) → (p : ℕ) × HasPlace d place x p → (p : ℕ) × HasPlace d place (add d x (minus d 1)) p
  lower x h = let b = before h.0 h.1.0 in (b.0, (b.1.0, b.1.1 ∙ ap (λ z. add d z (minus d 1)) h.1.1))

  far_lower : (n x : ℕ) → x + n < d → (p : ℕ) × HasPlace d place (x + n) p → (p : ℕ) × HasPlace d place x p
  far_lower zero x l h = (h.0, (h.1.0, h.1.1 ∙ (omega arith)))
  far_lower (suc n) x l h =
      let one_up : x + suc n ≡ add d (x + n) 1 = omega (arith, add-cases d (x + n) 1) in
      let next = lower (x + suc n) h in
      far_lower n x (omega arith)
      (next.0, (next.1.0, next.1.1 ∙ ap (λ z. add d z (minus d 1)) one_up ∙ add_back d (x + n) large (omega arith)))

  pub placed : (x : ℕ) → x < d → (p : ℕ) × HasPlace d place x p
  placed x l =
      let first : ℕ = place 0 in
      let first_in : first < d = inside 0 (omega (arith, large)) in
      let bottom = far_lower first 0 (omega (arith, first_in)) (0, (omega (arith, large), omega arith)) in
      let top = lower 0 bottom in
      let less : minus d 1 ≡ x + (d - 1 - x) = omega (arith, minus-cases d 1 large) in
      far_lower (d - 1 - x) x (omega arith) (top.0, (top.1.0, top.1.1 ∙ zero-add d (minus d 1) (minus-lt d 1 large) ∙ less))

-- The lines of a certificate, one by one.
use Rattle.homology_files.proofs.Common.{numbers_in, ◌≡◌, ℕ, ◌-◌, ◌<◌, eqb, Bool, true, false, List, [], ◌∷◌, ◌++◌, refl, arith, ne_eqb, Option, Some, Line}

module _ {X : Type 0} (read : List (List ℕ) → Option X) (is_above : List X → X → Bool) where
  -- some are still to come
  some : (left : ℕ) → 0 < left → eqb left 0 ≡ false
  some left h = ne_eqb left 0 (λ e. omega (arith, e, h))

  pub good_line : (end left : ℕ) (so_far : List X) (line : Line) (lines : List Line) (x : X) → 0 < left → read line.words ≡ Some x
      → is_above so_far x ≡ true
      → numbers_in read is_above end left so_far (line ∷ lines) ≡ numbers_in read is_above end (left - 1) (so_far ++ x ∷ []) lines
  good_line end left so_far line lines x h is above = rw (some left h, is, above) refl

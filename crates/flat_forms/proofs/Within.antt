-- Sums of numbers of 64 bits that stay within them.
use Rattle.std.proofs.Common.{◌≡◌, ℕ, ◌^◌, ◌<◌, ◌≤◌, lit≤, arith, ap, ap₂, ℤ, pos, negsuc, ◌+ℤ◌, ◌-ℤ◌, to_z, of_z, w64}
use Rattle.std.specs.Prelude.{unsigned_abs}
use Rattle.std.proofs.lemmas.Int.{ints}
use Rattle.flat_forms.specs.Vectors.{Vector, plus, less, unit_step}
use Rattle.flat_forms.specs.FlatStates.{size_of}
use Rattle.flat_forms.specs.Lemmas.StepsInThePlane.{IsUnit, right_one, up_one, left_one, down_one, is-unit}

-- a sum and a difference as the program forms them
sum-within : (x r : ℤ) → unsigned_abs x < 2 ^ 62 → unsigned_abs r ≤ 1
    → to_z w64 (of_z w64 (to_z w64 (of_z w64 x) +ℤ to_z w64 (of_z w64 r))) ≡ x +ℤ r
sum-within (pos n) (pos m) hx hr = omega (arith, ints)
sum-within (pos n) (negsuc m) hx hr = omega (arith, ints)
sum-within (negsuc n) (pos m) hx hr = omega (arith, ints)
sum-within (negsuc n) (negsuc m) hx hr = omega (arith, ints)

difference-within : (x r : ℤ) → unsigned_abs x < 2 ^ 62 → unsigned_abs r ≤ 1
    → to_z w64 (of_z w64 (to_z w64 (of_z w64 x) -ℤ to_z w64 (of_z w64 r))) ≡ x -ℤ r
difference-within (pos n) (pos m) hx hr = omega (arith, ints)
difference-within (pos n) (negsuc m) hx hr = omega (arith, ints)
difference-within (negsuc n) (pos m) hx hr = omega (arith, ints)
difference-within (negsuc n) (negsuc m) hx hr = omega (arith, ints)

-- the numbers of a unit step
abbrev AreSmall : Vector → Type 0
AreSmall e = (unsigned_abs e.x ≤ 1) × (unsigned_abs e.y ≤ 1)

small : (e : Vector) → IsUnit e → AreSmall e
small e unit = elim unit [
  | right_one a b ↦ rw (a, b) (lit≤ tt, lit≤ tt)
  | up_one a b ↦ rw (a, b) (lit≤ tt, lit≤ tt)
  | left_one a b ↦ rw (a, b) (lit≤ tt, lit≤ tt)
  | down_one a b ↦ rw (a, b) (lit≤ tt, lit≤ tt)
]

abbrev vector : ℤ → ℤ → Vector
vector x y = record { x = x; y = y }

module _ (s : Vector) (spoke : ℕ) (x y right up : ℤ) (view : vector x y ≡ s) (room : size_of s < 2 ^ 62)
    (is_right : right ≡ (unit_step spoke).x) (is_up : up ≡ (unit_step spoke).y) where
  pub sums-within : vector (to_z w64 (of_z w64 (to_z w64 (of_z w64 x) +ℤ to_z w64 (of_z w64 right))))
      (to_z w64 (of_z w64 (to_z w64 (of_z w64 y) +ℤ to_z w64 (of_z w64 up)))) ≡ plus s (unit_step spoke)
  sums-within =
      let units = small (unit_step spoke) (is-unit spoke) in
      let x_is : x ≡ s.x = ap (λ v. v.x) view in
      let y_is : y ≡ s.y = ap (λ v. v.y) view in
      rw (x_is, y_is, is_right, is_up) (ap₂ vector (sum-within s.x (unit_step spoke).x (omega arith) units.0)
      (sum-within s.y (unit_step spoke).y (omega arith) units.1))

  pub differences-within : vector (to_z w64 (of_z w64 (to_z w64 (of_z w64 x) -ℤ to_z w64 (of_z w64 right))))
      (to_z w64 (of_z w64 (to_z w64 (of_z w64 y) -ℤ to_z w64 (of_z w64 up)))) ≡ less s (unit_step spoke)
  differences-within =
      let units = small (unit_step spoke) (is-unit spoke) in
      let x_is : x ≡ s.x = ap (λ v. v.x) view in
      let y_is : y ≡ s.y = ap (λ v. v.y) view in
      rw (x_is, y_is, is_right, is_up) (ap₂ vector (difference-within s.x (unit_step spoke).x (omega arith) units.0)
      (difference-within s.y (unit_step spoke).y (omega arith) units.1))

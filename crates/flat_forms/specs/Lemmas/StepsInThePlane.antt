-- A unit step changes the parity, and is taken away again.
use Rattle.std.proofs.Common.{◌≡◌, ℕ, ◌+◌, ◌%◌, ◌≤◌, inl, inr, arith, refl, ◌∙◌, ap, ap₂, zero, suc, List, ℤ, pos, negsuc, ◌+ℤ◌, ◌-ℤ◌, lit≤}
use Rattle.std.specs.Prelude.{unsigned_abs}
use Rattle.std.proofs.lemmas.Bool.{cases_eq, eq-eqb, ne_eqb}
use Rattle.std.proofs.lemmas.Int.{ints}
use Rattle.flat_forms.specs.Vectors.{Vector, plus, less, unit_step}
use Rattle.flat_forms.specs.FlatStates.{parity, IsEvenPoint, flat_next, size_of}

abbrev vector : ℤ → ℤ → Vector
vector x y = record { x = x; y = y }

-- one more and one less change the parity of a whole number
up-parity : (z : ℤ) → unsigned_abs (z +ℤ pos 1) % 2 + unsigned_abs z % 2 ≡ 1
up-parity (pos n) = omega arith
up-parity (negsuc zero) = refl
up-parity (negsuc (suc n)) = let e : negsuc (suc n) +ℤ pos 1 ≡ negsuc n = omega (arith, ints) in rw e (omega arith)

down-parity : (z : ℤ) → unsigned_abs (z +ℤ negsuc 0) % 2 + unsigned_abs z % 2 ≡ 1
down-parity (pos zero) = refl
down-parity (pos (suc n)) = let e : pos (suc n) +ℤ negsuc 0 ≡ pos n = omega (arith, ints) in rw e (omega arith)
down-parity (negsuc n) = omega arith

-- one more and one less, of a whole number without its sign
up-size : (z : ℤ) → unsigned_abs (z +ℤ pos 1) ≤ unsigned_abs z + 1
up-size (pos n) = omega arith
up-size (negsuc zero) = lit≤ tt
up-size (negsuc (suc n)) = let e : negsuc (suc n) +ℤ pos 1 ≡ negsuc n = omega (arith, ints) in rw e (omega arith)

down-size : (z : ℤ) → unsigned_abs (z +ℤ negsuc 0) ≤ unsigned_abs z + 1
down-size (pos zero) = lit≤ tt
down-size (pos (suc n)) = let e : pos (suc n) +ℤ negsuc 0 ≡ pos n = omega (arith, ints) in rw e (omega arith)
down-size (negsuc n) = omega arith

-- a unit step goes one up or one down in one of the two numbers
pub data IsUnit (step : Vector) : Type 0 where
  right_one : step.x ≡ pos 1 → step.y ≡ pos 0 → IsUnit step
  up_one : step.x ≡ pos 0 → step.y ≡ pos 1 → IsUnit step
  left_one : step.x ≡ negsuc 0 → step.y ≡ pos 0 → IsUnit step
  down_one : step.x ≡ pos 0 → step.y ≡ negsuc 0 → IsUnit step

pub is-unit : (spoke : ℕ) → IsUnit (unit_step spoke)
is-unit spoke = elim (cases_eq spoke 0) [
  | inl e ↦ rw (eq-eqb spoke 0 e) (right_one refl refl)
  | inr not_zero ↦ rw (ne_eqb spoke 0 not_zero) (elim (cases_eq spoke 1) [
    | inl e ↦ rw (eq-eqb spoke 1 e) (up_one refl refl)
    | inr not_one ↦ rw (ne_eqb spoke 1 not_one) (elim (cases_eq spoke 2) [
      | inl e ↦ rw (eq-eqb spoke 2 e) (left_one refl refl)
      | inr not_two ↦ rw (ne_eqb spoke 2 not_two) (down_one refl refl)
    ])
  ])
]

module _ (s e : Vector) where
  -- a unit step changes the parity
  pub parity-plus : IsUnit e → parity (plus s e) + parity s ≡ 1
  parity-plus unit = elim unit [
    | right_one a b ↦
        let is : (s.x +ℤ e.x) +ℤ (s.y +ℤ e.y) ≡ (s.x +ℤ s.y) +ℤ pos 1 = omega (arith, ints, a, b) in rw is (up-parity (s.x +ℤ s.y))
    | up_one a b ↦
        let is : (s.x +ℤ e.x) +ℤ (s.y +ℤ e.y) ≡ (s.x +ℤ s.y) +ℤ pos 1 = omega (arith, ints, a, b) in rw is (up-parity (s.x +ℤ s.y))
    | left_one a b ↦
        let is : (s.x +ℤ e.x) +ℤ (s.y +ℤ e.y) ≡ (s.x +ℤ s.y) +ℤ negsuc 0 = omega (arith, ints, a, b) in rw is (down-parity (s.x +ℤ s.y))
    | down_one a b ↦
        let is : (s.x +ℤ e.x) +ℤ (s.y +ℤ e.y) ≡ (s.x +ℤ s.y) +ℤ negsuc 0 = omega (arith, ints, a, b) in rw is (down-parity (s.x +ℤ s.y))
  ]

  pub parity-less : IsUnit e → parity (less s e) + parity s ≡ 1
  parity-less unit = elim unit [
    | right_one a b ↦
        let is : (s.x -ℤ e.x) +ℤ (s.y -ℤ e.y) ≡ (s.x +ℤ s.y) +ℤ negsuc 0 = omega (arith, ints, a, b) in rw is (down-parity (s.x +ℤ s.y))
    | up_one a b ↦
        let is : (s.x -ℤ e.x) +ℤ (s.y -ℤ e.y) ≡ (s.x +ℤ s.y) +ℤ negsuc 0 = omega (arith, ints, a, b) in rw is (down-parity (s.x +ℤ s.y))
    | left_one a b ↦
        let is : (s.x -ℤ e.x) +ℤ (s.y -ℤ e.y) ≡ (s.x +ℤ s.y) +ℤ pos 1 = omega (arith, ints, a, b) in rw is (up-parity (s.x +ℤ s.y))
    | down_one a b ↦
        let is : (s.x -ℤ e.x) +ℤ (s.y -ℤ e.y) ≡ (s.x +ℤ s.y) +ℤ pos 1 = omega (arith, ints, a, b) in rw is (up-parity (s.x +ℤ s.y))
  ]

  -- what was added is taken away again, and what was taken away is added again
  pub less-plus : less (plus s e) e ≡ s
  less-plus = ap₂ vector (omega (arith, ints)) (omega (arith, ints))

  pub plus-less : plus (less s e) e ≡ s
  plus-less = ap₂ vector (omega (arith, ints)) (omega (arith, ints))

  -- a unit step adds one at most to the size
  pub size-plus : IsUnit e → size_of (plus s e) ≤ size_of s + 1
  size-plus unit = elim unit [
    | right_one a b ↦ grown (s.x +ℤ pos 1) s.y (omega (arith, ints, a)) (omega (arith, ints, b)) (up-size s.x) (omega arith)
    | up_one a b ↦ grown s.x (s.y +ℤ pos 1) (omega (arith, ints, a)) (omega (arith, ints, b)) (omega arith) (up-size s.y)
    | left_one a b ↦ grown (s.x +ℤ negsuc 0) s.y (omega (arith, ints, a)) (omega (arith, ints, b)) (down-size s.x) (omega arith)
    | down_one a b ↦ grown s.x (s.y +ℤ negsuc 0) (omega (arith, ints, a)) (omega (arith, ints, b)) (omega arith) (down-size s.y)
  ]
    where
      grown : (x y : ℤ) → s.x +ℤ e.x ≡ x → s.y +ℤ e.y ≡ y → unsigned_abs x ≤ unsigned_abs s.x + 1
          → unsigned_abs y ≤ unsigned_abs s.y + 1 → size_of (plus s e) ≤ size_of s + 1
      grown x y a b x_small y_small = rw (a, b) (omega arith)

  pub size-less : IsUnit e → size_of (less s e) ≤ size_of s + 1
  size-less unit = elim unit [
    | right_one a b ↦ grown (s.x +ℤ negsuc 0) s.y (omega (arith, ints, a)) (omega (arith, ints, b)) (down-size s.x) (omega arith)
    | up_one a b ↦ grown s.x (s.y +ℤ negsuc 0) (omega (arith, ints, a)) (omega (arith, ints, b)) (omega arith) (down-size s.y)
    | left_one a b ↦ grown (s.x +ℤ pos 1) s.y (omega (arith, ints, a)) (omega (arith, ints, b)) (up-size s.x) (omega arith)
    | down_one a b ↦ grown s.x (s.y +ℤ pos 1) (omega (arith, ints, a)) (omega (arith, ints, b)) (omega arith) (up-size s.y)
  ]
    where
      grown : (x y : ℤ) → s.x -ℤ e.x ≡ x → s.y -ℤ e.y ≡ y → unsigned_abs x ≤ unsigned_abs s.x + 1
          → unsigned_abs y ≤ unsigned_abs s.y + 1 → size_of (less s e) ≤ size_of s + 1
      grown x y a b x_small y_small = rw (a, b) (omega arith)

-- where a spoke leads
pub next-even : (places : List ℕ) (s : Vector) (spoke : ℕ) → IsEvenPoint s → flat_next places s spoke ≡ plus s (unit_step spoke)
next-even places s spoke e = rw (eq-eqb (parity s) 0 e) refl

pub next-odd : (places : List ℕ) (s : Vector) (spoke : ℕ) → ¬ IsEvenPoint s → flat_next places s spoke ≡ less s (unit_step spoke)
next-odd places s spoke e = rw (ne_eqb (parity s) 0 e) refl

-- two spokes from the vertex
pub next-next : (places : List ℕ) (s : Vector) (i j : ℕ) → IsEvenPoint s
    → flat_next places (flat_next places s i) j ≡ less (plus s (unit_step i)) (unit_step j)
next-next places s i j e =
    let turned = parity-plus s (unit_step i) (is-unit i) in
    ap (λ z. flat_next places z j) (next-even places s i e) ∙ next-odd places (plus s (unit_step i)) j (λ even. absurd (omega arith))

pub vertex-again : (s : Vector) (i j : ℕ) → IsEvenPoint s → IsEvenPoint (less (plus s (unit_step i)) (unit_step j))
vertex-again s i j e =
    let once = parity-plus s (unit_step i) (is-unit i) in
    let twice = parity-less (plus s (unit_step i)) (unit_step j) (is-unit j) in
    omega arith

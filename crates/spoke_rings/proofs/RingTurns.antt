-- The turns of a ring, and what is left of them where it is gone on along.
use Rattle.spoke_rings.proofs.Common.{spoke_along, stands_before, turn_along, IsLoop, ◌≡◌, ℕ, ◌+◌, ◌-◌, ◌%◌, ◌<◌, ◌≤◌, arith, refl, ◌∙◌, ap, ap₂, Bool, true, false, not, List, length, get_or, eq-eqb, ne_eqb, common_steps, All-get_or, add, minus, place_round}
use Rattle.turn_words.specs.Wheels.{IsWheel}
use Rattle.spoke_rings.proofs.Along.{along-first, along-round, rotated, rotated-along, rotated-length}

-- where a list stands
pub stands-even : (v : Bool) (k : ℕ) → k % 2 ≡ 0 → stands_before v k ≡ v
stands-even v k e = rw (eq-eqb (k % 2) 0 e) refl

pub stands-odd : (v : Bool) (k : ℕ) → k % 2 ≡ 1 → stands_before v k ≡ not v
stands-odd v k e = rw (ne_eqb (k % 2) 0 (λ z. absurd (omega arith))) refl

-- an odd number of places further
pub stands-turned : (v : Bool) (k c : ℕ) → c % 2 ≡ 1 → stands_before (not v) k ≡ stands_before v (k + c)
stands-turned v k c odd = grind (arith, stands-even, stands-odd)

pub stands-round : (v : Bool) (k n : ℕ) → n % 2 ≡ 0 → stands_before v (k + n) ≡ stands_before v k
stands-round v k n even = grind (arith, stands-even, stands-odd)

-- the turn between two spokes, round one point
abbrev pub turn_at : List ℕ → Bool → ℕ → ℕ → ℕ
turn_at places b before spoke = add (length places) (place_round places b spoke) (minus (length places) (place_round places b before))

module _ (places : List ℕ) where
  pub turn-round : (v : Bool) (s : List ℕ) → length s % 2 ≡ 0 → (k : ℕ) → turn_along places v s (k + length s) ≡ turn_along places v s k
  turn-round v s even k =
      let n = length s in
      let e : k + n + (n - 1) ≡ k + (n - 1) + n = omega arith in
      ap₂ (λ b x. turn_at places b (spoke_along s (k + n + (n - 1))) x) (stands-round v k n even) (along-round s k)
      ∙ ap (λ y. turn_at places (stands_before v k) y (spoke_along s k)) (ap (spoke_along s) e ∙ along-round s (k + (n - 1)))

  -- the list from another start, where it stands at the other point
  pub turn-rotated : (v : Bool) (s : List ℕ) (c : ℕ) → c % 2 ≡ 1 → c ≤ length s → (k : ℕ) →
      turn_along places (not v) (rotated c s) k ≡ turn_along places v s (k + c)
  turn-rotated v s c odd within k = grind (arith, rotated-length, stands-turned, rotated-along)

  -- the turn at the seam, and those behind it
  pub turn-seam : (v : Bool) (s : List ℕ) → 0 < length s →
      turn_along places v s 0 ≡ turn_at places v (get_or s (length s - 1) 0) (get_or s 0 0)
  turn-seam v s some = grind (arith, along-first)

  pub turn-behind : (v : Bool) (s : List ℕ) (k : ℕ) → 0 < k → k < length s →
      turn_along places v s k ≡ turn_at places (stands_before v k) (get_or s (k - 1) 0) (get_or s k 0)
  turn-behind v s k some below = grind (arith, along-round, along-first)

  pub place-below : (b : Bool) (i : ℕ) → IsWheel places → i < length places → place_round places b i < length places
  place-below true i wheel below = wheel.inside i below
  place-below false i wheel below = below

  pub spoke-below : (s : List ℕ) (k : ℕ) → IsLoop places s → k < length s → get_or s k 0 < length places
  spoke-below s k loop below = All-get_or (λ spoke. spoke < length places) s k 0 below loop.below

  pub loop-rotated : (s : List ℕ) (c : ℕ) → c ≤ length s → IsLoop places s → IsLoop places (rotated c s)
  loop-rotated s c within loop = grind (arith, common_steps, rotated-length)

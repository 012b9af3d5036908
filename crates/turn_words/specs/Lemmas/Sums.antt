-- Sums modulo a degree.
use Rattle.std.proofs.Common.{◌≡◌, ℕ, ◌+◌, ◌<◌, ◌≤◌, ◌⊎◌, arith}
use Rattle.std.proofs.lemmas.Bool.Decides.{nat_tests}
use Rattle.turn_words.specs.Modulo.{add, minus}

-- a sum wraps once at most
pub add-cases : (d a b : ℕ) → ((a + b < d) × (add d a b ≡ a + b)) ⊎ ((d ≤ a + b) × (add d a b + d ≡ a + b))
unfolding add
add-cases d a b = grind (arith, nat_tests)

pub minus-cases : (d a : ℕ) → a < d → ((a ≡ 0) × (minus d a ≡ 0)) ⊎ ((0 < a) × (minus d a + a ≡ d))
unfolding minus
minus-cases d a h = grind (arith, nat_tests)

pub add-lt : (d a b : ℕ) → a < d → b < d → add d a b < d
add-lt d a b ha hb = omega (arith, add-cases d a b)

pub minus-lt : (d a : ℕ) → a < d → minus d a < d
minus-lt d a ha = omega (arith, minus-cases d a ha)

pub add_comm : (d a b : ℕ) → add d a b ≡ add d b a
add_comm d a b = omega (arith, add-cases d a b, add-cases d b a)

pub add_assoc : (d a b c : ℕ) → a < d → b < d → c < d → add d (add d a b) c ≡ add d a (add d b c)
add_assoc d a b c ha hb hc = omega (
  arith,
  add-cases d a b,
  add-cases d (add d a b) c,
  add-cases d b c,
  add-cases d a (add d b c),
)

pub add-zero : (d a : ℕ) → a < d → add d a 0 ≡ a
add-zero d a h = omega (arith, add-cases d a 0)

pub zero-add : (d a : ℕ) → a < d → add d 0 a ≡ a
zero-add d a h = omega (arith, add-cases d 0 a)

pub add-minus : (d a : ℕ) → a < d → add d a (minus d a) ≡ 0
add-minus d a h = omega (arith, minus-cases d a h, add-cases d a (minus d a))

pub minus-one : (d : ℕ) → 5 ≤ d → minus d 1 + 1 ≡ d
minus-one d h = let below : 1 < d = omega arith in omega (arith, minus-cases d 1 below)

pub minus-two : (d : ℕ) → 5 ≤ d → minus d 2 + 2 ≡ d
minus-two d h = let below : 2 < d = omega arith in omega (arith, minus-cases d 2 below)

-- Turns and moves between places below a degree.
use Rattle.spoke_rings.proofs.Common.{one_on, ◌≡◌, ℕ, ◌+◌, ◌-◌, ◌<◌, ◌≤◌, arith, sym, ◌∙◌, ap, Bool, false, add-cases, minus-cases, minus-one, add, minus}

pub turn-on : (d p q from to : ℕ) → from ≡ p → to ≡ q → from < d → to < d → from ≤ to → to - from ≡ add d q (minus d p)
turn-on d p q from to e f below inside on = grind (arith, minus-cases, add-cases)

pub turn-back : (d p q from to : ℕ) → from ≡ p → to ≡ q → from < d → to < d → to < from → d - from + to ≡ add d q (minus d p)
turn-back d p q from to e f below inside back = grind (arith, minus-cases, add-cases)

pub moved-on : (d p by place : ℕ) → place ≡ p → place < d - by → place + by ≡ add d p by
moved-on d p by place e on = omega (arith, add-cases d p by)

pub moved-round : (d p by place : ℕ) → place ≡ p → by < d → d - by ≤ place → place - (d - by) ≡ add d p by
moved-round d p by place e below round = omega (arith, add-cases d p by)

-- one place back
pub one-back : (d : ℕ) (up : Bool) → 5 ≤ d → up ≡ false → d - 1 ≡ one_on d up
one-back d up five e = (let one = minus-one d five in omega arith) ∙ sym (ap (one_on d) e)

-- A map of numbers, done again and again.
use Rattle.std.specs.Prelude.{◌≡◌, ℕ, zero, suc}

-- where k steps of the map lead from x
abbrev pub after_steps : (ℕ → ℕ) → ℕ → ℕ → ℕ
after_steps f zero x = x
after_steps f (suc k) x = f (after_steps f k x)

-- some steps of the map, or none, lead from x to y: y lies on the orbit of x
pub record IsReached (f : ℕ → ℕ) (x y : ℕ) : Type 0 where
  pub steps : ℕ
  pub leads : after_steps f steps x ≡ y

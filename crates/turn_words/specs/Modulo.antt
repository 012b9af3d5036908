-- Sums of numbers below a degree, modulo the degree.
use Rattle.std.specs.Prelude.{ℕ, ◌+◌, ◌-◌, ◌==◌, nat_lt, if◌then◌else◌}

-- the sum of two numbers below the degree
unfoldable pub add : ℕ → ℕ → ℕ → ℕ
add degree a b = if nat_lt (a + b) degree then a + b else a + b - degree

-- what is added to a number to take it away
unfoldable pub minus : ℕ → ℕ → ℕ
minus degree a = if a == 0 then 0 else degree - a

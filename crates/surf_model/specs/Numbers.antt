-- The numbers below a bound that pass a test.
use Rattle.std.specs.Prelude.{ℕ, zero, suc, ◌+◌, Bool, if◌then◌else◌, Option, find}
use Rattle.std.specs.List.{range_with_len}

-- the least number below n that passes
abbrev pub first_below : (ℕ → Bool) → ℕ → Option ℕ
first_below test n = find test (range_with_len 0 n)

-- how many numbers below n pass
abbrev pub count_below : (ℕ → Bool) → ℕ → ℕ
count_below test zero = 0
count_below test (suc n) = count_below test n + (if test n then 1 else 0)

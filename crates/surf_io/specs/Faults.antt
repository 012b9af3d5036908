-- What a count of faults says of a call.
use Rattle.std.specs.Prelude.{◌≢◌, ℕ, ◌-◌, ◌^◌, ◌<◌}

-- the count rose in a call: it is greater after it, unless it stands at 2 ^ 64 - 1, a counter's last value
abbrev pub Rose : ℕ → ℕ → Type 0
Rose old new = new ≢ 2 ^ 64 - 1 → old < new

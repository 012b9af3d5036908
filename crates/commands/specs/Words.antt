-- The words of the command line.
use Rattle.std.specs.Prelude.{◌≡◌, ℕ, ◌<◌, ◌^◌, List, map, string_bytes, String}
use Rattle.std.specs.Global.{Global}
use Rattle.std.specs.Str.Parse.{IsNumeral, digits_value}

-- the bytes of each word
abbrev pub texts : List (String Global) → List (List ℕ)
texts words = map string_bytes words

-- a natural number in decimal digits, leading zeros allowed, that fits 32 bits
abbrev pub IsNatural : List ℕ → ℕ → Type 0
IsNatural digits n = IsNumeral 10 digits × (digits_value 10 digits ≡ n) × (n < 2 ^ 32)

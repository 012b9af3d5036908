-- Bytes that are appended to what a sink holds, where that is told.
use Rattle.std.specs.Prelude.{◌≡◌, ℕ, ◌≤◌, List, ◌++◌, take, length, Option, None, Some}

-- what is held after the bytes; what is not told stays so
abbrev pub append_told : Option (List ℕ) → List ℕ → Option (List ℕ)
append_told None bytes = None
append_told (Some held) bytes = Some (held ++ bytes)

-- the bytes were appended
abbrev pub Appends : Option (List ℕ) → Option (List ℕ) → List ℕ → Type 0
Appends old new bytes = new ≡ append_told old bytes

-- some first part of the bytes was appended, and nothing else
pub record AppendsPrefix (old new : Option (List ℕ)) (bytes : List ℕ) : Type 0 where
  pub count : ℕ
  pub within : count ≤ length bytes
  pub appended : Appends old new (take count bytes)

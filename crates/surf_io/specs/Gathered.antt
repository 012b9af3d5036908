-- Bytes that a piece gathers before they go to a sink.
use Rattle.std.specs.Prelude.{◌≡◌, ℕ, List, ◌∷◌, ◌++◌, Option, Result, OnOk, OnErr, decimal}
use Rattle.surf_io.specs.Calls.{OnlyWrites, WroteAll, WrotePart}

-- The bytes were put behind those that a piece held. The first of all these were written, and the piece holds the rest.
pub record Gathers {X : Type 0} (written : X → Option (List ℕ)) (old new : X) (held left bytes : List ℕ) : Type 0 where
  pub done : List ℕ
  pub out : WroteAll written old new done
  pub whole : done ++ left ≡ held ++ bytes

-- how a call ends that puts bytes behind those that a piece holds: they were put, or a first part of all was written
pub record Puts {X R E : Type 0} (written : X → Option (List ℕ)) (settled faults : X → ℕ) (result : Result R E)
    (old new : X) (held left bytes : List ℕ) : Type 0 where
  pub ok : OnOk result (Gathers written old new held left bytes)
  pub failed : OnErr result (WrotePart written faults old new (held ++ bytes))
  pub only_writes : OnlyWrites settled faults old new

-- a number behind a blank
abbrev pub spaced_number : ℕ → List ℕ
spaced_number n = 32 ∷ decimal n

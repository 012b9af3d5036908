-- What a call that writes a text did.
use Rattle.std.specs.Prelude.{ℕ, List, Option, Result, OnOk, OnErr}
use Rattle.surf_io.specs.Calls.{OnlyWrites, WroteAll, WrotePart}

-- The whole text was written, or a first part of it and the count of faults rose. `written`, `settled` and `faults` are what the sink
-- tells.
pub record Writes {X V E : Type 0} (written : X → Option (List ℕ)) (settled faults : X → ℕ) (old new : X) (text : List ℕ)
    (result : Result V E) : Type 0 where
  pub ok : OnOk result (WroteAll written old new text)
  pub failed : OnErr result (WrotePart written faults old new text)
  pub only_writes : OnlyWrites settled faults old new

-- The status with which the program ends, and its number.
use Rattle.std.specs.Prelude.{◌≡◌, ℕ, ◌⊎◌}
use Rattle.commands.specs.declared.status.Status.{Status}
use Rattle.commands.specs.declared.status.Status.TheVariants.{Yes, No, Refused, ReadFault, WriteFault, OutOfMemory}

-- the status tells that an answer was written whole
abbrev pub IsAnswered : Status → Type 0
IsAnswered status = (status ≡ Yes) ⊎ ((status ≡ No) ⊎ (status ≡ Refused))

-- the number with which the program ends
abbrev pub status_number : Status → ℕ
status_number Yes = 0
status_number No = 1
status_number Refused = 2
status_number ReadFault = 3
status_number WriteFault = 4
status_number OutOfMemory = 5

-- What a call leaves of a shelf or a sink. `held`, `written`, `settled` and `faults` are what those tell.
use Rattle.std.specs.Prelude.{◌≡◌, ℕ, ◌≤◌, List, Option}
use Rattle.surf_io.specs.Bytes.{Appends, AppendsPrefix}
use Rattle.surf_io.specs.Faults.{Rose}
use Rattle.surf_io.specs.Files.{Files}

-- the call only read: the files stay, and the count of faults did not fall
pub record OnlyReads {X : Type 0} (held : X → Option Files) (faults : X → ℕ) (old new : X) : Type 0 where
  pub same_files : held new ≡ held old
  pub never_falls : faults old ≤ faults new

-- the call only wrote: no more is settled, and the count of faults did not fall
pub record OnlyWrites {X : Type 0} (settled faults : X → ℕ) (old new : X) : Type 0 where
  pub same_settled : settled new ≡ settled old
  pub never_falls : faults old ≤ faults new

-- all of the bytes were written
abbrev pub WroteAll : {X : Type 0} → (X → Option (List ℕ)) → X → X → List ℕ → Type 0
WroteAll written old new bytes = Appends (written old) (written new) bytes

-- a first part of the bytes was written, and the count of faults rose
pub record WrotePart {X : Type 0} (written : X → Option (List ℕ)) (faults : X → ℕ) (old new : X) (bytes : List ℕ) : Type 0 where
  pub part : AppendsPrefix (written old) (written new) bytes
  pub fault : Rose (faults old) (faults new)

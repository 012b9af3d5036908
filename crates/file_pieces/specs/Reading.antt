-- A file that is read in pieces.
use Rattle.std.specs.Prelude.{◌≡◌, ℕ, ◌+◌, ◌≤◌, Bool, true, List, length, take, drop}

-- how many bytes may be read, how many were looked at, those that were read and not looked at yet, and whether the file
-- has no others
pub record Reading : Type 0 where
  pub limit : ℕ
  pub place : ℕ
  pub kept : List ℕ
  pub ended : Bool

-- how many bytes were read
abbrev pub read_so_far : Reading → ℕ
read_so_far reading = reading.place + length reading.kept

-- the file's bytes that were not looked at yet
abbrev pub bytes_left : Reading → List ℕ → List ℕ
bytes_left reading file = drop reading.place file

-- It is this file that is read: what is kept are its bytes from the place on, and where the reading has ended they are all.
pub record Reads (reading : Reading) (file : List ℕ) : Type 0 where
  pub within : read_so_far reading ≤ length file
  pub kept : reading.kept ≡ take (length reading.kept) (bytes_left reading file)
  pub whole : reading.ended ≡ true → length file ≤ reading.place

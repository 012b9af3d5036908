-- Lists of numbers, each on a line of a text, and how they lie in memory.
use Rattle.std.specs.Prelude.{ℕ, ◌-◌, ◌≤◌, List, [], length, map, take, drop, slice_index_or, All}
use Rattle.walk_files.specs.declared.number_lines.Place.{Place}

-- the numbers of a line, and the number of that line
pub record NumberLine : Type 0 where
  pub line : ℕ
  pub numbers : List ℕ

-- lists, and the numbers so far of a line that is of none of them yet
pub record PendingLists : Type 0 where
  pub lists : List NumberLine
  pub pending : List ℕ

-- list k; no numbers where there is no such list
abbrev pub line_at : List NumberLine → ℕ → NumberLine
line_at lists k = slice_index_or lists k (record { line = 0; numbers = [] })

-- the list that lies at a place among all numbers
abbrev pub list_at : List ℕ → Place → NumberLine
list_at numbers place = record { line = place.line; numbers = take (place.end - place.start) (drop place.start numbers) }

-- the lists that lie so
abbrev pub stored_lists : List Place → List ℕ → List NumberLine
stored_lists places numbers = map (list_at numbers) places

-- each place is within the numbers
abbrev pub AreWithin : List Place → List ℕ → Type 0
AreWithin places numbers = All (λ place. (place.start ≤ place.end) × (place.end ≤ length numbers)) places

-- When a list of entries is no turn word over a degree from 5 on.
use Rattle.std.specs.Prelude.{ℕ, ◌<◌, ◌≤◌, List, length, slice_index}
use Rattle.turn_words.specs.declared.canonising.WordFault.{WordFault}
use Rattle.turn_words.specs.declared.canonising.WordFault.TheVariants.{Degree, Range, OutOfMemory}

-- the first entry that is not below the degree
pub record IsFirstAbove (degree : ℕ) (word : List ℕ) (at : ℕ) : Type 0 where
  pub at_below : at < length word
  pub above : degree ≤ slice_index word at
  pub first : (earlier : ℕ) → earlier < at → slice_index word earlier < degree

-- why the list is no turn word over the degree
abbrev pub IsWordFaultOf : ℕ → List ℕ → WordFault → Type 0
IsWordFaultOf degree word Degree = degree < 5
IsWordFaultOf degree word (Range at) = (5 ≤ degree) × IsFirstAbove degree word at
IsWordFaultOf degree word OutOfMemory = Unit {0}

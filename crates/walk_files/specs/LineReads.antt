-- What the private functions that read a walk line with groups do, on the words that are left in it.
use Rattle.std.specs.Prelude.{◌≡◌, ℕ, ◌+◌, ◌-◌, ◌^◌, ◌<◌, ◌≤◌, min, if◌then◌else◌, is_some, List, [], ◌∷◌, ◌++◌, length, Option, Some, None, Result, Ok, Err}
use Rattle.surf_model.specs.Walks.{darts}
use Rattle.text_scan.specs.Each.{each_some}
use Rattle.text_scan.specs.Lines.{Line}
use Rattle.walk_files.specs.WalkTexts.{token_of, behind_vertex, written_out, read_tokens}
use Rattle.walk_files.specs.declared.fault.WalkFault.{WalkFault}
use Rattle.walk_files.specs.declared.fault.WalkFault.TheVariants.{BadNumber, BadGroup}
use Rattle.walk_files.specs.declared.limits.TheConstants.{MOST_WALK_VERTICES}
use Rattle.walk_files.specs.declared.tokens.Token.{Token}
use Rattle.walk_files.specs.declared.tokens.Token.TheVariants.{Open, Close}

-- a number, or as much as 64 bits hold
abbrev pub capped : ℕ → ℕ
capped n = min n (2 ^ 64 - 1)

-- vertices before those that were read
abbrev pub put_before : List ℕ → Result (List ℕ) WalkFault → Result (List ℕ) WalkFault
put_before first (Err fault) = Err fault
put_before first (Ok rest) = Ok (first ++ rest)

-- the vertices that stand for the words left behind a vertex, where a group with these numbers is open or none, or the fault of the line
abbrev pub rest_of : ℕ → ℕ → Option (List ℕ) → List (List ℕ) → Result (List ℕ) WalkFault
rest_of line vertex group words = read_tokens (behind_vertex vertex group) line (each_some token_of words)

-- the walk of a line, or its fault
abbrev pub walk_on : Line → Result (List ℕ) WalkFault
walk_on line = read_tokens written_out line.number (each_some token_of line.words)

-- the fault of a line whose tokens so far begin no walk
abbrev pub no_walk : ℕ → List (List ℕ) → WalkFault
no_walk line words = if is_some (each_some token_of words) then BadGroup line else BadNumber line

-- tokens that are not first a number mean nothing
pub record NeedsNumber (meaning : List Token → Option (List ℕ)) : Type 0 where
  pub at_end : meaning [] ≡ None
  pub at_open : (tokens : List Token) → meaning (Open ∷ tokens) ≡ None
  pub at_close : (tokens : List Token) → meaning (Close ∷ tokens) ≡ None

-- the walk of the line up to a vertex, behind which these words are left, has so many darts
pub record IsCountedTo (line : Line) (vertex : ℕ) (words : List (List ℕ)) (count : ℕ) : Type 0 where
  pub walk : List ℕ
  pub some : 0 < length walk
  pub counted : count ≡ capped (darts walk)
  pub rest : walk_on line ≡ put_before walk (rest_of line.number vertex None words)

-- the walk of the line has so many darts
pub record IsCount (line : Line) (count : ℕ) : Type 0 where
  pub walk : List ℕ
  pub some : 0 < length walk
  pub counted : count ≡ capped (darts walk)
  pub is_walk : walk_on line ≡ Ok walk

-- from inside a group that has these numbers so far to behind it so many vertices stand, those before among them
pub record IsGroupCount (line vertex : ℕ) (group : List ℕ) (old new : List (List ℕ)) (count : ℕ) : Type 0 where
  pub written : List ℕ
  pub counted : count ≡ capped (length written)
  pub rest : rest_of line vertex (Some group) old ≡ put_before written (rest_of line vertex None new)

-- behind a vertex the words left in a group stand for few vertices, with those of the walk before
pub record IsShortGroup (line : ℕ) (words : List (List ℕ)) (before : List ℕ) : Type 0 where
  pub vertex : ℕ
  pub rest : List ℕ
  pub rest_is : rest_of line vertex (Some []) words ≡ Ok rest
  pub short : length before + length rest ≤ MOST_WALK_VERTICES

-- a group was written behind a walk, if its words stand for vertices behind some vertex
pub record IsWritten (line : ℕ) (vertex : ℕ) (old new : List (List ℕ)) (before after : List ℕ) : Type 0 where
  pub written : List ℕ
  pub walk_is : after ≡ before ++ written
  pub rest : rest_of line vertex (Some []) old ≡ put_before written (rest_of line vertex None new)

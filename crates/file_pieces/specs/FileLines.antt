-- The lines of a file that is read in pieces.
use Rattle.std.specs.Prelude.{◌≡◌, ◌≢◌, slice_get, false, ◌⊎◌, ℕ, ◌+◌, ◌<◌, ◌≤◌, Bool, if◌then◌else◌, not, true, List, [], ◌∷◌, ◌++◌, length, Option, Some, None, MatchOption}
use Rattle.std.specs.List.{list_all}
use Rattle.text_scan.specs.Lines.{Line, is_filled, cut_lines, lines_from}
use Rattle.text_scan.specs.Unread.{is_line_feed, words_here}
use Rattle.file_pieces.specs.Reading.{Reading}
use Rattle.file_pieces.specs.declared.file_lines.Taken.{Taken}
use Rattle.file_pieces.specs.declared.file_lines.Taken.TheVariants.{Open, Found, End}
use Rattle.file_pieces.specs.SameLines.{SameLine}
use Rattle.file_pieces.specs.ShortLines.{ShortText, Stands}

-- how far the file is read, and the number of the line at the place
pub record LinesReading : Type 0 where
  pub reading : Reading
  pub number : ℕ

-- bytes of one line
abbrev pub IsOneLine : List ℕ → Type 0
IsOneLine bytes = list_all (λ byte. not (is_line_feed byte)) bytes ≡ true

-- a line with this number is first among these lines, before those, and the short words stand for its words
pub record IsFirstLine (lines : List Line) (number : ℕ) (short : List (List ℕ)) (others : List Line) : Type 0 where
  pub words : List (List ℕ)
  pub first : lines ≡ record { number = number; words = words } ∷ others
  pub same : SameLine short words

-- Of these bytes, whose first line has this number, blank lines were read, and then the line that was found, if any; those bytes
-- are left. A line that was found lies before the next.
pub record ReadsLine (number : ℕ) (bytes : List ℕ) (found : Option ℕ) (short : List (List ℕ)) (next : ℕ) (left : List ℕ) : Type 0 where
  pub lines : MatchOption found (lines_from number bytes ≡ lines_from next left)
      (λ n. IsFirstLine (lines_from number bytes) n short (lines_from next left))
  pub count : number + length (cut_lines bytes) ≡ next + length (cut_lines left)
  pub later : MatchOption found (number ≤ next) (λ n. number < next)

-- Of these bytes, whose first line has the number `first`, blank lines were read, and the short line stands for what was read of the
-- present one.
pub record IsOn (first : ℕ) (all : List ℕ) (line : ShortText) (number : ℕ) (left : List ℕ) : Type 0 where
  pub so_far : List ℕ
  pub stands : Stands line so_far
  pub alone : IsOneLine so_far
  pub lines : lines_from first all ≡ lines_from number (so_far ++ left)
  pub count : first + length (cut_lines all) ≡ number + length (cut_lines (so_far ++ left))
  pub later : first ≤ number

-- where the reading stands behind a byte: in a line, behind a line with words, or at the end
abbrev pub StandsBehind : Taken → ℕ → List ℕ → ShortText → ℕ → List ℕ → Type 0
StandsBehind Open first all line number left = IsOn first all line number left
StandsBehind (Found n) first all line number left = ReadsLine first all (Some n) (words_here line.done) number left
StandsBehind End first all line number left = ReadsLine first all None (words_here line.done) number left × (left ≡ [])

-- a line that was found has words
abbrev pub HasLine : Taken → List (List ℕ) → Type 0
HasLine (Found n) words = is_filled words ≡ true
HasLine other words = Unit {0}

-- a byte was looked at, unless the text has ended
abbrev pub TakesPlace : Taken → Reading → Reading → Type 0
TakesPlace Open old new = new.place ≡ old.place + 1
TakesPlace (Found n) old new = (new.place ≡ old.place + 1) ⊎ (new.ended ≡ true)
TakesPlace End old new = new.ended ≡ true

-- no line has a greater number than it has bytes before it, and one more; a line that was begun counts as one more
abbrev pub IsNumbered : Taken → ℕ → Bool → ℕ → Type 0
IsNumbered Open number begun place = number + (if begun then 1 else 0) ≤ place + 1
IsNumbered other number begun place = number ≤ place + 1

-- the byte is the first of these bytes, and those are behind it; or it is not, and all are left
abbrev pub PassesByte : Bool → ℕ → List ℕ → List ℕ → Type 0
PassesByte true byte bytes left = bytes ≡ byte ∷ left
PassesByte false byte bytes left = (left ≡ bytes) × (slice_get bytes 0 ≢ Some byte)

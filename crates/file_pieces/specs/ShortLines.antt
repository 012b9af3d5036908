-- A line whose words are shortened.
use Rattle.std.specs.Prelude.{◌≡◌, ℕ, ◌+◌, ◌*◌, ◌<◌, ◌≤◌, Bool, true, false, not, ◌&&◌, ◌==◌, if◌then◌else◌, List, [], ◌∷◌, ◌++◌, length, drop}
use Rattle.std.specs.List.{list_all}
use Rattle.text_scan.specs.Lines.{is_filled}
use Rattle.text_scan.specs.Numbers.{is_digit}
use Rattle.text_scan.specs.Steps.{ends_word}
use Rattle.text_scan.specs.Unread.{is_line_feed, words_here}
use Rattle.file_pieces.specs.declared.short_line.TheConstants.{MOST_WORDS, MOST_BYTES}
use Rattle.file_pieces.specs.SameLines.{SameWord, SameLine}

-- a blank and the words that have ended, with a blank behind each; the word that has begun; whether no further byte counts; and
-- whether the line has a byte
pub record ShortText : Type 0 where
  pub done : List ℕ
  pub word : List ℕ
  pub closed : Bool
  pub begun : Bool

-- the text of the line, with these bytes behind it
abbrev pub text_before : ShortText → List ℕ → List ℕ
text_before line after = if line.closed then line.done else line.done ++ (line.word ++ after)

-- The short line stands for a line that has these bytes so far, whatever comes behind them.
pub record Stands (line : ShortText) (bytes : List ℕ) : Type 0 where
  pub same : (after : List ℕ) → SameLine (words_here (text_before line after)) (words_here (bytes ++ after))
  pub begun : line.begun ≡ is_filled bytes

-- no zero stands before another digit
abbrev pub is_lean : List ℕ → Bool
is_lean [] = true
is_lean (first ∷ []) = true
is_lean (first ∷ second ∷ others) = not (first == 48 && is_digit second)

-- what holds of every short line, of whose words so many have ended
pub record IsShortLine (line : ShortText) (words : ℕ) : Type 0 where
  pub first : line.done ≡ 32 ∷ drop 1 line.done
  pub alone : list_all (λ byte. not (is_line_feed byte)) line.done ≡ true
  pub room : length line.done ≤ 1 + (MOST_BYTES + 1) * words
  pub few : words ≤ MOST_WORDS
  pub going_on : line.closed ≡ false → words < MOST_WORDS
  pub ended : line.closed ≡ true → line.word ≡ []
  pub closes : (after : List ℕ) → words_here (line.done ++ after) ≡ words_here line.done ++ words_here after
  pub count : length (words_here line.done) ≡ words
  pub short : length line.word ≤ MOST_BYTES
  pub inside : list_all (λ byte. not (ends_word byte)) line.word ≡ true
  pub lean : is_lean line.word ≡ true

-- The word that has begun, behind the text of those that have ended, has ended in the new line.
pub record HasEnded (done word : List ℕ) (new : ShortText) : Type 0 where
  pub ended : (mark : ℕ) (after : List ℕ) → ends_word mark ≡ true
      → words_here (done ++ (word ++ mark ∷ after)) ≡ words_here new.done ++ words_here (mark ∷ after)
  pub closes : (after : List ℕ) → words_here (new.done ++ after) ≡ words_here new.done ++ words_here after
  pub many : new.closed ≡ true → MOST_WORDS ≤ length (words_here new.done)

-- What is kept of a word says the same as what was kept of it before with the byte, whatever comes behind them.
pub record PutsByte (old new : List ℕ) (byte : ℕ) : Type 0 where
  pub same : (rest : List ℕ) → SameWord (new ++ rest) (old ++ byte ∷ rest)
  pub filled : is_filled new ≡ true
  pub short : length new ≤ MOST_BYTES
  pub lean : is_lean new ≡ true
  pub inside : list_all (λ b. not (ends_word b)) new ≡ true

-- What a reader has still to read of a text.
use Rattle.std.specs.Prelude.{ℕ, ℤ, ◌+◌, ◌==◌, ◌&&◌, if◌then◌else◌, List, [], ◌∷◌, length, drop, Bool, true, false, Option, None, Some}
use Rattle.std.specs.List.{before_first, after_first}
use Rattle.std.specs.Str.{bytes_eq}
use Rattle.text_scan.specs.Lines.{Line, is_filled, words, cut_lines, lines_from}
use Rattle.text_scan.specs.Numbers.{natural_of, number_of, integer_of, is_number_text}

-- a place in a text: the number of the present line, the words left in it, the lines behind it that are not blank,
-- and the line where the text ends
pub record Unread : Type 0 where
  pub line : ℕ
  pub words : List (List ℕ)
  pub lines : List Line
  pub end_line : ℕ

-- the lines with words that are left of a text, and how many lines the whole text has
pub record LinesLeft : Type 0 where
  pub lines : List Line
  pub count : ℕ

-- the lines with words left, the present one among them
abbrev pub lines_left : Unread → List Line
lines_left unread = if is_filled unread.words then record { number = unread.line; words = unread.words } ∷ unread.lines else unread.lines

-- at the first of the lines with words left; no other place where there is none
abbrev pub at_line : Unread → List Line → Unread
at_line unread [] = unread
at_line unread (line ∷ lines) = record unread { line = line.number; words = line.words; lines = lines }

-- past the first word left
abbrev pub past_word : Unread → Unread
past_word unread = record unread { words = drop 1 unread.words }

-- the next word, if there is one
abbrev pub next_word : List (List ℕ) → Option (List ℕ)
next_word [] = None
next_word (word ∷ others) = Some word

-- the number that the next word is, if there is one and it is a natural
abbrev pub next_natural : List (List ℕ) → Option ℕ
next_natural [] = None
next_natural (word ∷ others) = natural_of word

-- the same, if it has 32 bits
abbrev pub next_number : List (List ℕ) → Option ℕ
next_number [] = None
next_number (word ∷ others) = number_of word

-- the integer that the next word is, if there is one and it is an integer of 64 bits
abbrev pub next_integer : List (List ℕ) → Option ℤ
next_integer [] = None
next_integer (word ∷ others) = integer_of word

-- whether these words are those
abbrev pub are_words : List (List ℕ) → List (List ℕ) → Bool
are_words [] [] = true
are_words [] (other ∷ others) = false
are_words (word ∷ words) [] = false
are_words (word ∷ words) (other ∷ others) = bytes_eq word other && are_words words others

-- whether there is a next word and it is a number text
abbrev pub next_is_number_text : List (List ℕ) → Bool
next_is_number_text [] = false
next_is_number_text (word ∷ others) = is_number_text word

abbrev pub is_line_feed : ℕ → Bool
is_line_feed byte = byte == 10

-- the words up to the end of the line, from a place in it on
unfoldable pub words_here : List ℕ → List (List ℕ)
words_here rest = words (before_first is_line_feed rest)

-- the lines behind that line
unfoldable pub behind : List ℕ → List ℕ
behind = after_first is_line_feed

-- what is left of a text without a mark where the bytes `rest` are left, the first of them in line `line`
abbrev pub unread_at : List ℕ → ℕ → List ℕ → Unread
unread_at text line rest =
    record { line = line; words = words_here rest; lines = lines_from (line + 1) (behind rest); end_line = length (cut_lines text) + 1 }

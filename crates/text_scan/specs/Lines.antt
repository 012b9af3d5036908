-- Texts as lines of words, on lists of bytes.
use Rattle.std.specs.Prelude.{ℕ, ◌+◌, Bool, true, false, ◌==◌, ◌||◌, if◌then◌else◌, List, [], ◌∷◌, length, take, drop, map, filter}
use Rattle.std.specs.List.{enumerate_from, slice_split, before_first, onto_first}
use Rattle.std.specs.Str.{bytes_eq}

-- whether a list has an element
abbrev pub is_filled : {A : Type 0} → List A → Bool
is_filled [] = false
is_filled (x ∷ xs) = true

-- a text without the byte-order mark that it may begin with
unfoldable pub unmarked : List ℕ → List ℕ
unmarked text = if bytes_eq (take 3 text) (239 ∷ 187 ∷ 191 ∷ []) then drop 3 text else text

-- the lines, cut at each line feed; behind a last line feed there is none
unfoldable pub cut_lines : List ℕ → List (List ℕ)
cut_lines [] = []
cut_lines (byte ∷ rest) = if byte == 10 then [] ∷ cut_lines rest else onto_first byte (cut_lines rest)

-- a blank, a tab, a vertical tab, a form feed or a carriage return
abbrev pub is_blank : ℕ → Bool
is_blank byte = byte == 32 || byte == 9 || byte == 11 || byte == 12 || byte == 13

-- the part of a line before its comment, which begins at the first #
abbrev pub uncommented : List ℕ → List ℕ
uncommented = before_first (λ byte. byte == 35)

-- the words of a line: the longest runs of bytes that are no blanks, before its comment
unfoldable pub words : List ℕ → List (List ℕ)
words line = filter is_filled (slice_split is_blank (uncommented line))

-- a line: its number, and its words
pub record Line : Type 0 where
  pub number : ℕ
  pub words : List (List ℕ)

-- the lines of a text that have words, where its first line has number n
unfoldable pub lines_from : ℕ → List ℕ → List Line
lines_from n text =
    filter (λ line. is_filled line.words) (map (λ p. record { number = p.0; words = words p.1 }) (enumerate_from n (cut_lines text)))

-- the lines of a whole text that are not blank: lines are counted from 1, blank ones too
abbrev pub full_lines : List ℕ → List Line
full_lines text = lines_from 1 (unmarked text)

-- the number of lines of a whole text
abbrev pub line_count : List ℕ → ℕ
line_count text = length (cut_lines (unmarked text))

-- the line where a text ends: one more than its number of lines
abbrev pub end_line : List ℕ → ℕ
end_line text = line_count text + 1

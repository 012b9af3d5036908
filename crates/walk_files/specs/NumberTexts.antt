-- Texts of which each line is a list of numbers: walks, and turn words.
use Rattle.std.specs.Prelude.{ℕ, nat_lt, nat_le, if◌then◌else◌, List, [], ◌∷◌, length, codes, Option, Some, Result, Ok, Err}
use Rattle.std.specs.Option.{ok_or}
use Rattle.std.specs.List.{enumerate_from}
use Rattle.std.specs.Str.{bytes_eq}
use Rattle.text_scan.specs.Lines.{Line, full_lines}
use Rattle.text_scan.specs.Numbers.{number_of}
use Rattle.text_scan.specs.Each.{each_some, each_ok}
use Rattle.walk_files.specs.NumberLists.{NumberLine}
use Rattle.walk_files.specs.declared.fault.WalkFault.{WalkFault}
use Rattle.walk_files.specs.declared.fault.WalkFault.TheVariants.{BadNumber, TooLong, TooMany}
use Rattle.walk_files.specs.declared.limits.TheConstants.{MOST_LINES, MOST_WALK_VERTICES, MOST_ENTRIES}

-- the vertices of a walk: each word is a number
abbrev pub walk_of : List (List ℕ) → Option (List ℕ)
walk_of = each_some number_of

-- the entries of a turn word: each word is a number, or the one word `empty` stands for none
abbrev pub entries_of : List (List ℕ) → Option (List ℕ)
entries_of (word ∷ []) = if bytes_eq word (codes "empty") then Some [] else each_some number_of (word ∷ [])
entries_of words = each_some number_of words

-- what the words of a line mean, of which there may be `most`, or the fault of the line
abbrev pub numbers_on : (List (List ℕ) → Option (List ℕ)) → ℕ → ℕ → List (List ℕ) → Result (List ℕ) WalkFault
numbers_on meaning most line words = if nat_lt most (length words) then Err (TooLong line) else ok_or (meaning words) (BadNumber line)

-- the same of a line before which `before` lines came
abbrev pub line_of_numbers : (List (List ℕ) → Option (List ℕ)) → ℕ → ℕ → Line → Result (List ℕ) WalkFault
line_of_numbers meaning most before line =
    if nat_le MOST_LINES before then Err (TooMany line.number) else numbers_on meaning most line.number line.words

-- these numbers, with the number of their line
abbrev pub on_line : ℕ → Result (List ℕ) WalkFault → Result NumberLine WalkFault
on_line line (Err fault) = Err fault
on_line line (Ok numbers) = Ok (record { line = line; numbers = numbers })

-- the walks of lines, one on each, or their first fault
abbrev pub plain_walks_of : List Line → Result (List (List ℕ)) WalkFault
plain_walks_of lines = each_ok (λ p. line_of_numbers walk_of MOST_WALK_VERTICES p.0 p.1) (enumerate_from 0 lines)

-- the turn words on lines before which `before` lines came, each with the number of its line, or the first fault of them
abbrev pub words_on : ℕ → List Line → Result (List NumberLine) WalkFault
words_on before lines =
    each_ok (λ p. on_line p.1.number (line_of_numbers entries_of MOST_ENTRIES p.0 p.1)) (enumerate_from before lines)

-- the turn words of a text, each with the number of its line, or its first fault
abbrev pub words_of : List ℕ → Result (List NumberLine) WalkFault
words_of text = words_on 0 (full_lines text)

-- a text of turn words of which some were read: the one that was read last, what is left, and on how many lines
pub record WordsLeft : Type 0 where
  pub present : NumberLine
  pub left : Result (List NumberLine) WalkFault
  pub lines : ℕ

-- The lines of turn words.
use Rattle.std.specs.Prelude.{ℕ, List, [], ◌∷◌, map, flat_map, codes, decimal}
use Rattle.commands.specs.Lines.{line}

-- the line of a turn word: its entries, or `empty` where it has none
abbrev pub word_line : List ℕ → List ℕ
word_line [] = line (codes "empty") []
word_line (entry ∷ entries) = line (decimal entry) (map decimal entries)

-- a line for each turn word
abbrev pub words_text : List (List ℕ) → List ℕ
words_text words = flat_map word_line words

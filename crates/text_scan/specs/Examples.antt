-- The definitions at work. Each line is proved by computing.
use Rattle.std.specs.Prelude.{◌≡◌, ℕ, true, false, List, [], ◌∷◌, ◌++◌, map, Some, None, codes, refl, pos, negsuc}
use Rattle.text_scan.specs.Lines.{Line, unmarked, cut_lines, words, lines_from, full_lines, end_line}
use Rattle.text_scan.specs.Unread.{are_words}
use Rattle.text_scan.specs.Numbers.{is_natural, value_of, natural_of, signed_of, number_of, integer_of, is_number_text}

-- a text from its lines, with no line feed behind the last
abbrev text : List (List ℕ) → List ℕ
text [] = []
text (line ∷ []) = line
text (line ∷ next ∷ lines) = line ++ 10 ∷ text (next ∷ lines)

abbrev line : ℕ → List (List ℕ) → Line
line number words = record { number = number; words = words }

-- Behind a last line feed there is no line, but an empty line between two line feeds is one.
three_lines : cut_lines (text (codes "a" ∷ [] ∷ codes "b" ∷ [] ∷ [])) ≡ codes "a" ∷ [] ∷ codes "b" ∷ []
unfolding cut_lines
three_lines = refl

no_line_feed_at_the_end : cut_lines (codes "ab") ≡ codes "ab" ∷ []
unfolding cut_lines
no_line_feed_at_the_end = refl

no_lines : cut_lines [] ≡ []
unfolding cut_lines
no_lines = refl

-- The five blanks, of which two are seldom seen, and a comment that begins in a word.
three_words : words (9 ∷ codes "4" ++ 11 ∷ 12 ∷ codes "x " ++ 13 ∷ codes "yz#q 5") ≡ codes "4" ∷ codes "x" ∷ codes "yz" ∷ []
unfolding words
three_words = refl

only_a_comment : words (codes "  # 4 5") ≡ []
unfolding words
only_a_comment = refl

-- Blank lines are passed over and counted.
numbered : full_lines (text (codes "# title" ∷ codes "OFF" ∷ [] ∷ codes " 4 4" ∷ []))
    ≡ line 2 (codes "OFF" ∷ []) ∷ line 4 (codes "4" ∷ codes "4" ∷ []) ∷ []
unfolding unmarked cut_lines words lines_from
numbered = refl

the_end : end_line (text (codes "a" ∷ codes "b" ∷ [] ∷ [])) ≡ 3
unfolding unmarked cut_lines
the_end = refl

the_end_of_nothing : end_line (239 ∷ 187 ∷ 191 ∷ []) ≡ 1
unfolding unmarked cut_lines
the_end_of_nothing = refl

-- One byte-order mark is passed over; a second is the first word's.
one_mark : full_lines (239 ∷ 187 ∷ 191 ∷ codes "OFF") ≡ line 1 (codes "OFF" ∷ []) ∷ []
unfolding unmarked cut_lines words lines_from
one_mark = refl

two_marks : full_lines (239 ∷ 187 ∷ 191 ∷ 239 ∷ 187 ∷ 191 ∷ codes "OFF") ≡ line 1 ((239 ∷ 187 ∷ 191 ∷ codes "OFF") ∷ []) ∷ []
unfolding unmarked cut_lines words lines_from
two_marks = refl

-- A natural has any length; a sign, a point and an empty word make none.
many_digits : natural_of (codes "00018446744073709551616") ≡ Some 18446744073709551616
unfolding is_natural value_of
many_digits = refl

no_naturals : map is_natural ([] ∷ codes "-1" ∷ codes "+1" ∷ codes "1." ∷ codes "1e3" ∷ []) ≡ false ∷ false ∷ false ∷ false ∷ false ∷ []
unfolding is_natural
no_naturals = refl

whole_numbers : map signed_of (codes "-0" ∷ codes "-12" ∷ codes "7" ∷ codes "--7" ∷ codes "+7" ∷ codes "-" ∷ [])
    ≡ Some (pos 0) ∷ Some (negsuc 11) ∷ Some (pos 7) ∷ None ∷ None ∷ None ∷ []
unfolding is_natural value_of
whole_numbers = refl

-- A number ends at 32 bits, and an integer at 64.
small_numbers : map number_of (codes "4294967295" ∷ codes "4294967296" ∷ codes "-0" ∷ []) ≡ Some 4294967295 ∷ None ∷ None ∷ []
unfolding is_natural value_of
small_numbers = refl

integers :
    map integer_of
    (codes "-9223372036854775808" ∷ codes "9223372036854775807" ∷ codes "-9223372036854775809" ∷ codes "9223372036854775808" ∷ [])
    ≡ Some (negsuc 9223372036854775807) ∷ Some (pos 9223372036854775807) ∷ None ∷ None ∷ []
unfolding is_natural value_of
integers = refl

-- Words are those of another line where each is the same, and as many are there.
same_words :
    map (are_words (codes "not" ∷ codes "so" ∷ []))
    ((codes "not" ∷ codes "so" ∷ []) ∷ (codes "not" ∷ []) ∷ (codes "not" ∷ codes "so" ∷ codes "x" ∷ [])
    ∷ (codes "not" ∷ codes "s" ∷ []) ∷ [])
    ≡ true ∷ false ∷ false ∷ false ∷ []
same_words = refl

number_texts :
    map is_number_text
    (codes "0" ∷ codes "1." ∷ codes "-.5E+1" ∷ codes "1e0" ∷ codes "+12.50e-3" ∷ codes "nan" ∷ codes "-inf" ∷ [])
    ≡ true ∷ true ∷ true ∷ true ∷ true ∷ true ∷ true ∷ []
unfolding is_number_text is_natural
number_texts = refl

no_number_texts :
    map is_number_text
    ([] ∷ codes "." ∷ codes "-" ∷ codes "1e" ∷ codes "e5" ∷ codes "1.2.3" ∷ codes "--1"
    ∷ codes "infinity" ∷ codes "0x1" ∷ codes "1e5.0" ∷ codes "1,5" ∷ [])
    ≡ false ∷ false ∷ false ∷ false ∷ false ∷ false ∷ false ∷ false ∷ false ∷ false ∷ false ∷ []
unfolding is_number_text is_natural
no_number_texts = refl

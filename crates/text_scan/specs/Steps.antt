-- What the private functions of the cursor do, on the bytes that are left.
use Rattle.std.specs.Prelude.{◌≡◌, ℕ, ◌+◌, ◌-◌, ◌^◌, ◌≤◌, ◌||◌, ◌==◌, min, not, Bool, true, false, List, [], ◌∷◌, ◌++◌, length, drop}
use Rattle.std.specs.List.{list_all, position_or_len}
use Rattle.text_scan.specs.Lines.{is_blank, lines_from}
use Rattle.text_scan.specs.Numbers.{is_digit, is_point, is_decimal, value_of}
use Rattle.text_scan.specs.Unread.{is_line_feed, words_here, behind}

-- a blank, a line feed, or the beginning of a comment
abbrev pub ends_word : ℕ → Bool
ends_word byte = is_blank byte || is_line_feed byte || byte == 35

-- from the first byte that passes on
abbrev pub from_first : (ℕ → Bool) → List ℕ → List ℕ
from_first test bytes = drop (position_or_len test bytes) bytes

-- the bytes begin with a byte that passes
abbrev pub begins_with : (ℕ → Bool) → List ℕ → Bool
begins_with test [] = false
begins_with test (byte ∷ rest) = test byte

abbrev pub begins_word : List ℕ → Bool
begins_word = begins_with (λ byte. not (ends_word byte))

-- further on in the same line, past so many words
pub record IsPast (dropped : ℕ) (rest after : List ℕ) : Type 0 where
  pub words : words_here after ≡ drop dropped (words_here rest)
  pub behind : behind after ≡ behind rest
  pub shorter : length after ≤ length rest

-- at the first word from a place in line n on, in line m; `rest` has words
pub record IsFirstWord (n : ℕ) (rest : List ℕ) (m : ℕ) (after : List ℕ) : Type 0 where
  pub lines : lines_from n rest ≡ lines_from m after
  pub word : begins_word after ≡ true
  pub shorter : m + length after ≤ n + length rest
  pub later : n ≤ m

-- past digits at the front, whose value is `capped`, or 2^64 - 1 where it is larger
pub record ArePastDigits (rest : List ℕ) (capped : ℕ) (after : List ℕ) : Type 0 where
  pub digits : List ℕ
  pub parts : rest ≡ digits ++ after
  pub all : list_all is_digit digits ≡ true
  pub value : capped ≡ min (value_of digits) (2 ^ 64 - 1)

-- past digits at the front
pub record IsPastDigits (rest after : List ℕ) : Type 0 where
  pub digits : List ℕ
  pub parts : rest ≡ digits ++ after
  pub all : list_all is_digit digits ≡ true

-- past digits, and a point with digits behind it or none
pub record IsPastDecimal (rest after : List ℕ) : Type 0 where
  pub text : List ℕ
  pub parts : rest ≡ text ++ after
  pub plain : list_all (λ byte. is_digit byte || is_point byte) text ≡ true
  pub first : begins_with is_digit text ≡ true
  pub decimal : is_decimal text ≡ true

-- no bytes, or a line feed first
abbrev pub IsLineEnd : List ℕ → Type 0
IsLineEnd [] = Unit {0}
IsLineEnd (byte ∷ rest) = byte ≡ 10

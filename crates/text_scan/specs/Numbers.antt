-- Words that are numbers.
use Rattle.std.specs.Prelude.{ℕ, ◌+◌, ◌-◌, ◌*◌, Bool, true, ◌==◌, ◌&&◌, ◌||◌, nat_le, nat_lt, ◌^◌, if◌then◌else◌, List, [], ◌∷◌, ◌++◌, fold, Option, Some, None, option_map, option_and_then, codes, ℤ, pos, negsuc, neg_ℤ}
use Rattle.std.specs.List.{list_any, list_all, before_first, after_first}
use Rattle.std.specs.Str.{bytes_eq}
use Rattle.text_scan.specs.Lines.{is_filled}

abbrev pub is_digit : ℕ → Bool
is_digit byte = nat_le 48 byte && nat_le byte 57

-- a natural: one or more digits, leading zeros among them or not
unfoldable pub is_natural : List ℕ → Bool
is_natural word = is_filled word && list_all is_digit word

-- the number that digits stand for
unfoldable pub value_of : List ℕ → ℕ
value_of = fold (λ value digit. value * 10 + (digit - 48)) 0

-- the number that a word is, if it is a natural; it may have any length
abbrev pub natural_of : List ℕ → Option ℕ
natural_of word = if is_natural word then Some (value_of word) else None

-- the number that a word is, if it is a natural with a minus before it or none
abbrev pub signed_of : List ℕ → Option ℤ
signed_of [] = None
signed_of (byte ∷ rest) =
    if byte == 45 then option_map (λ n. neg_ℤ (pos n)) (natural_of rest)
    else option_map pos (natural_of (byte ∷ rest))

-- whether an integer is one of 64 bits with a sign
abbrev pub fits_i64 : ℤ → Bool
fits_i64 (pos n) = nat_lt n (2 ^ 63)
fits_i64 (negsuc n) = nat_lt n (2 ^ 63)

-- the number that a word is, if it is a natural below the bound
abbrev pub number_below : ℕ → List ℕ → Option ℕ
number_below bound word = option_and_then (λ n. if nat_lt n bound then Some n else None) (natural_of word)

-- the number that a word is, if it is a natural of 32 bits
abbrev pub number_of : List ℕ → Option ℕ
number_of = number_below (2 ^ 32)

-- the integer that a word is, if it is one of 64 bits
abbrev pub integer_of : List ℕ → Option ℤ
integer_of word = option_and_then (λ n. if fits_i64 n then Some n else None) (signed_of word)

-- a word without the sign that it may begin with
abbrev pub unsigned : List ℕ → List ℕ
unsigned [] = []
unsigned (byte ∷ rest) = if byte == 43 || byte == 45 then rest else byte ∷ rest

abbrev pub is_point : ℕ → Bool
is_point byte = byte == 46

abbrev pub is_exponent_mark : ℕ → Bool
is_exponent_mark byte = byte == 101 || byte == 69

-- digits, with a point before, among or behind them or none: one digit at least
abbrev pub is_decimal : List ℕ → Bool
is_decimal text = is_natural (before_first is_point text ++ after_first is_point text)

-- no exponent; or `e` or `E`, a sign or none, and digits
abbrev pub has_exponent_or_none : List ℕ → Bool
has_exponent_or_none text = if list_any is_exponent_mark text then is_natural (unsigned (after_first is_exponent_mark text)) else true

-- a number text without its sign: `nan`, `inf`, or digits with an exponent or none
abbrev pub is_unsigned_text : List ℕ → Bool
is_unsigned_text text =
    bytes_eq text (codes "nan") || bytes_eq text (codes "inf")
    || (is_decimal (before_first is_exponent_mark text) && has_exponent_or_none text)

-- whether a word is a number text: a sign or none, and what follows it
unfoldable pub is_number_text : List ℕ → Bool
is_number_text word = is_unsigned_text (unsigned word)

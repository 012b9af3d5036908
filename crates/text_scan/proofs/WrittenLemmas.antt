-- Lines that were written are read again.
use Rattle.text_scan.proofs.Common.{◌≡◌, ℕ, suc, ◌==◌, ◌+◌, ◌-◌, ◌%◌, ◌^◌, ◌<◌, ◌≤◌, true, false, not, List, [], ◌∷◌, ◌++◌, refl, ap, ◌∙◌, append_assoc, arith, lt-ltb, leb-true, and_parts, and_from, common_steps, list_all-append, list_all, Some, nat_le, decimal, flat_map, All, ℤ, pos, negsuc, option_map, map, each_some, Line, is_filled, cut_lines, lines_from, is_digit, is_natural, value_of, natural_of, signed_of, fits_i64, number_below, number_of, integer_of, ends_word, begins_word, from_first, is_line_feed, words_here, behind}
use Rattle.std.proofs.lemmas.Fmt.{decimal_by_steps}
use Rattle.std.proofs.lemmas.List.{append-nil}
use Rattle.std.proofs.lemmas.List.Elements.{All-head, All-tail, All-cons, All-nil}
use Rattle.std.specs.Fmt.{signed_decimal}
use Rattle.std.specs.Prelude.{fold}
use Rattle.text_scan.specs.Plain.{line_of}
use Rattle.text_scan.proofs.ListLemmas.{all_weaker, before_first-append, before_first-yes, from_first-append, from_first-yes}
use Rattle.text_scan.proofs.PlaceLemmas.{words_here-word, words_here-blank, words_here-line_feed, behind-line_feed, behind-other, lines_from_here}

-- ---- words that may be written: they have bytes, and none of them ends a word

pub record IsWritable (word : List ℕ) : Type 0 where
  pub filled : is_filled word ≡ true
  pub inside : list_all (λ byte. not (ends_word byte)) word ≡ true

begins : (word rest : List ℕ) → IsWritable word → begins_word (word ++ rest) ≡ true
begins [] rest w = cc
begins (byte ∷ word) rest w = (and_parts (not (ends_word byte)) (list_all (λ b. not (ends_word b)) word) w.inside).0

-- a word, and what ends it
first_word : (word : List ℕ) (mark : ℕ) (rest : List ℕ) → IsWritable word → ends_word mark ≡ true
    → words_here (word ++ mark ∷ rest) ≡ word ∷ words_here (mark ∷ rest)
first_word word mark rest w ends =
    words_here-word (word ++ mark ∷ rest) (begins word (mark ∷ rest) w)
    ∙ ap (λ t. t ∷ words_here (from_first ends_word (word ++ mark ∷ rest)))
    (before_first-append ends_word word (mark ∷ rest) w.inside ∙ ap (λ t. word ++ t) (before_first-yes ends_word mark rest ends)
    ∙ append-nil word)
    ∙ ap (λ t. word ∷ words_here t) (from_first-append ends_word word (mark ∷ rest) w.inside ∙ from_first-yes ends_word mark rest ends)

behind-word : (word rest : List ℕ) → list_all (λ byte. not (ends_word byte)) word ≡ true → behind (word ++ rest) ≡ behind rest
behind-word [] rest w = refl
behind-word (byte ∷ word) rest w =
    let parts = and_parts (not (ends_word byte)) (list_all (λ b. not (ends_word b)) word) w in
    behind-other byte (word ++ rest) (no_feed byte parts.0) ∙ behind-word word rest parts.1
  where
    no_feed : (byte : ℕ) → not (ends_word byte) ≡ true → is_line_feed byte ≡ false
    no_feed byte e = grind (arith, e)

-- ---- lines that are written

-- a line of one word, and one of more
line-one : (word rest : List ℕ) → line_of (word ∷ []) ++ rest ≡ word ++ 10 ∷ rest
line-one word rest = append_assoc word (10 ∷ []) rest

line-more : (word next : List ℕ) (words : List (List ℕ)) (rest : List ℕ)
    → line_of (word ∷ next ∷ words) ++ rest ≡ word ++ 32 ∷ (line_of (next ∷ words) ++ rest)
line-more word next words rest = grind (arith, common_steps)

-- its words are read
pub words_here-line : (word : List ℕ) (words : List (List ℕ)) (rest : List ℕ) → All IsWritable (word ∷ words)
    → words_here (line_of (word ∷ words) ++ rest) ≡ word ∷ words
words_here-line word [] rest all =
    ap words_here (line-one word rest) ∙ first_word word 10 rest (All-head IsWritable word [] all) refl
    ∙ ap (λ t. word ∷ t) (words_here-line_feed 10 rest refl)
words_here-line word (next ∷ words) rest all =
    ap words_here (line-more word next words rest)
    ∙ first_word word 32 (line_of (next ∷ words) ++ rest) (All-head IsWritable word (next ∷ words) all) refl
    ∙ ap (λ t. word ∷ t) (words_here-blank 32 (line_of (next ∷ words) ++ rest) refl
    ∙ words_here-line next words rest (All-tail IsWritable word (next ∷ words) all))

-- and the text goes on behind it
pub behind-line : (word : List ℕ) (words : List (List ℕ)) (rest : List ℕ) → All IsWritable (word ∷ words)
    → behind (line_of (word ∷ words) ++ rest) ≡ rest
behind-line word [] rest all =
    ap behind (line-one word rest) ∙ behind-word word (10 ∷ rest) (All-head IsWritable word [] all).inside ∙ behind-line_feed 10 rest refl
behind-line word (next ∷ words) rest all =
    ap behind (line-more word next words rest)
    ∙ behind-word word (32 ∷ (line_of (next ∷ words) ++ rest)) (All-head IsWritable word (next ∷ words) all).inside
    ∙ behind-other 32 (line_of (next ∷ words) ++ rest) refl ∙ behind-line next words rest (All-tail IsWritable word (next ∷ words) all)

-- lines of writable words
pub record IsLine (words : List (List ℕ)) : Type 0 where
  pub filled : is_filled words ≡ true
  pub writable : All IsWritable words

-- the lines, numbered from n
abbrev pub numbered : ℕ → List (List (List ℕ)) → List Line
numbered n [] = []
numbered n (words ∷ lines) = record { number = n; words = words } ∷ numbered (n + 1) lines

pub lines_from-written : (n : ℕ) (lines : List (List (List ℕ))) → All IsLine lines
    → lines_from n (flat_map line_of lines) ≡ numbered n lines
unfolding lines_from cut_lines
lines_from-written n [] all = refl
lines_from-written n ([] ∷ lines) all = let first = All-head IsLine [] lines all in cc
lines_from-written n ((word ∷ words) ∷ lines) all =
    let first = (All-head IsLine (word ∷ words) lines all).writable in
    let rest = flat_map line_of lines in
    lines_from_here n (line_of (word ∷ words) ++ rest)
    ∙ rw (words_here-line word words rest first, behind-line word words rest first)
    (ap (λ t. record { number = n; words = word ∷ words } ∷ t)
    (lines_from-written (n + 1) lines (All-tail IsLine (word ∷ words) lines all)))

-- ---- numbers that are written

pub record IsDecimal (n : ℕ) (digits : List ℕ) : Type 0 where
  pub filled : is_filled digits ≡ true
  pub all : list_all is_digit digits ≡ true
  pub value : value_of digits ≡ n

is_digit-below : (n : ℕ) → n < 10 → is_digit (48 + n) ≡ true
is_digit-below n less = grind (arith, and_from)

fold-push : (f : ℕ → ℕ → ℕ) (a : ℕ) (xs : List ℕ) (x : ℕ) → fold f a (xs ++ x ∷ []) ≡ f (fold f a xs) x
fold-push f a [] x = refl
fold-push f a (y ∷ xs) x = fold-push f (f a y) xs x

is_filled-push : (xs : List ℕ) (x : ℕ) → is_filled (xs ++ x ∷ []) ≡ true
is_filled-push [] x = refl
is_filled-push (y ∷ xs) x = refl

pub decimal_is : (n : ℕ) → n < 2 ^ 64 → IsDecimal n (decimal n)
unfolding value_of
decimal_is = decimal_by_steps IsDecimal
    (λ n less. record { filled = refl; all = and_from (is_digit (48 + n)) true (is_digit-below n less) refl; value = omega arith })
    (λ n ds many so_far. record {
      filled = is_filled-push ds (48 + n % 10);
      all = list_all-append is_digit ds ((48 + n % 10) ∷ []) ∙ rw (so_far.all, is_digit-below (n % 10) (omega arith)) refl;
      value = grind (arith, fold-push);
    })

pub digits_inside : (ds : List ℕ) → list_all is_digit ds ≡ true → list_all (λ byte. not (ends_word byte)) ds ≡ true
digits_inside = all_weaker is_digit (λ byte. not (ends_word byte)) digit_inside
  where
    digit_inside : (d : ℕ) → is_digit d ≡ true → not (ends_word d) ≡ true
    digit_inside d e =
        let bounds = and_parts (nat_le 48 d) (nat_le d 57) e in
        let low : 48 ≤ d = leb-true 48 d bounds.0 in
        grind (arith, low)

pub decimal-writable : (n : ℕ) → n < 2 ^ 64 → IsWritable (decimal n)
decimal-writable n fits = let d = decimal_is n fits in record { filled = d.filled; inside = digits_inside (decimal n) d.all }

-- a number that was written is read
natural-read : (n : ℕ) → n < 2 ^ 64 → natural_of (decimal n) ≡ Some n
unfolding is_natural
natural-read n fits = grind (arith, decimal_is, and_from)

pub number_below-decimal : (bound n : ℕ) → n < bound → n < 2 ^ 64 → number_below bound (decimal n) ≡ Some n
number_below-decimal bound n less fits = rw (natural-read n fits, lt-ltb n bound less) refl

-- ---- lists of numbers

pub number-writable : (n : ℕ) → n < 2 ^ 32 → IsWritable (decimal n)
number-writable n fits = decimal-writable n (omega (arith, fits))

-- each of some words is writable
abbrev pub AreWritable : List (List ℕ) → Type 0
AreWritable [] = Unit {0}
AreWritable (word ∷ words) = IsWritable word × AreWritable words

pub all_writable : (words : List (List ℕ)) → AreWritable words → All IsWritable words
all_writable [] each = All-nil IsWritable
all_writable (word ∷ words) each = All-cons IsWritable word words each.0 (all_writable words each.1)

pub decimals-writable : (numbers : List ℕ) → All (λ n. n < 2 ^ 32) numbers → All IsWritable (map decimal numbers)
decimals-writable [] small = All-nil IsWritable
decimals-writable (n ∷ numbers) small =
    All-cons IsWritable (decimal n) (map decimal numbers) (number-writable n (All-head (λ m. m < 2 ^ 32) n numbers small))
    (decimals-writable numbers (All-tail (λ m. m < 2 ^ 32) n numbers small))

pub number-read : (n : ℕ) → n < 2 ^ 32 → number_of (decimal n) ≡ Some n
number-read n fits = number_below-decimal (2 ^ 32) n fits (omega (arith, fits))

pub numbers-read : (numbers : List ℕ) → All (λ n. n < 2 ^ 32) numbers → each_some number_of (map decimal numbers) ≡ Some numbers
numbers-read [] small = refl
numbers-read (n ∷ numbers) small =
    rw (
      number-read n (All-head (λ m. m < 2 ^ 32) n numbers small),
      numbers-read numbers (All-tail (λ m. m < 2 ^ 32) n numbers small),
    ) refl

-- ---- integers that are written

pub integer-writable : (z : ℤ) → fits_i64 z ≡ true → IsWritable (signed_decimal z)
integer-writable (pos n) fits = decimal-writable n (grind (arith, fits))
integer-writable (negsuc n) fits =
    let digits : IsWritable (decimal (suc n)) = decimal-writable (suc n) (grind (arith, fits)) in
    record { filled = refl; inside = digits.inside }

-- digits begin with no minus
no_minus : (word : List ℕ) → is_filled word ≡ true → list_all is_digit word ≡ true → signed_of word ≡ option_map pos (natural_of word)
no_minus [] filled digits = cc
no_minus (byte ∷ word) filled digits =
    let first = (and_parts (is_digit byte) (list_all is_digit word) digits).0 in
    let other : (byte == 45) ≡ false = no byte first in
    rw other refl
  where
    no : (byte : ℕ) → is_digit byte ≡ true → (byte == 45) ≡ false
    no byte digit = grind (arith, digit)

pub integer-read : (z : ℤ) → fits_i64 z ≡ true → integer_of (signed_decimal z) ≡ Some z
integer-read (pos n) fits = grind (arith, decimal_is, no_minus, natural-read)
integer-read (negsuc n) fits = grind (arith, natural-read)

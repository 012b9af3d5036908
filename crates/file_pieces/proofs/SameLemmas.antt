-- Words and lines that say the same.
use Rattle.file_pieces.proofs.Common.{SameWord, SameWords, SameLine, is_lean, ◌≡◌, ◌≢◌, lit≤, le_trans, ℕ, zero, suc, ◌+◌, ◌-◌, ◌*◌, ◌^◌, ◌≤◌, Bool, true, false, eqb, not, ◌&&◌, List, [], ◌∷◌, ◌++◌, length, take, fold, refl, sym, ap, ◌∙◌, arith, length-append, and_parts, leb-true, le-ltb, eq-eqb, both_ways, list_all, nat_le, nat_eq, bytes_eq, is_digit, is_natural, value_of, number_below}
use Rattle.std.specs.Prelude.{None}

-- ---- words

pub SameWord-refl : (word : List ℕ) → SameWord word word
SameWord-refl word = record { keyword = λ wanted is. refl; number = λ bound below. refl }

SameWord-trans : (a b c : List ℕ) → SameWord a b → SameWord b c → SameWord a c
SameWord-trans a b c first second = grind arith

-- a digit is no byte of a keyword
no_keyword : (byte : ℕ) (rest wanted : List ℕ) → is_digit byte ≡ true → list_all (λ b. not (is_digit b)) wanted ≡ true
    → bytes_eq (byte ∷ rest) wanted ≡ false
no_keyword byte rest [] digit none = refl
no_keyword byte rest (other ∷ wanted) digit none = grind arith

-- a leading zero says nothing
pub SameWord-zero : (byte : ℕ) (rest : List ℕ) → is_digit byte ≡ true → SameWord (byte ∷ rest) (48 ∷ byte ∷ rest)
unfolding is_natural value_of
SameWord-zero byte rest digit = grind (arith, no_keyword)

-- ---- long words

equal_lengths : (xs ys : List ℕ) → bytes_eq xs ys ≡ true → length xs ≡ length ys
equal_lengths [] [] e = refl
equal_lengths [] (y ∷ ys) e = cc
equal_lengths (x ∷ xs) [] e = cc
equal_lengths (x ∷ xs) (y ∷ ys) e = ap suc (equal_lengths xs ys (and_parts (nat_eq x y) (bytes_eq xs ys) e).1)

too_long : (word wanted : List ℕ) → length wanted ≤ 9 → 10 ≤ length word → bytes_eq word wanted ≡ false
too_long word wanted short long = by_test (bytes_eq word wanted) refl
  where
    by_test : (b : Bool) → bytes_eq word wanted ≡ b → b ≡ false
    by_test true e = absurd (omega (arith, equal_lengths word wanted e, short, long))
    by_test false e = refl

-- ten times, n times
tens : ℕ → ℕ → ℕ
tens zero m = m
tens (suc n) m = tens n (m * 10)

abbrev digits_from : ℕ → List ℕ → ℕ
digits_from = fold (λ value digit. value * 10 + (digit - 48))

grows : (digits : List ℕ) (value : ℕ) → value ≤ digits_from value digits
grows [] value = omega arith
grows (digit ∷ digits) value =
    omega (arith, grows digits (value * 10 + (digit - 48)))

grows_by : (n : ℕ) (digits : List ℕ) (m value : ℕ) → n ≤ length digits → m ≤ value → tens n m ≤ digits_from value digits
unfolding tens
grows_by zero digits m value long least = omega (arith, least, grows digits value)
grows_by (suc n) [] m value long least = absurd (omega (arith, long))
grows_by (suc n) (digit ∷ digits) m value long least =
    grows_by n digits (m * 10) (value * 10 + (digit - 48)) (omega (arith, long)) (omega (arith, least))

zero_first : (b : Bool) → not (true && b) ≡ true → b ≡ false
zero_first true e = cc
zero_first false e = refl

pub ne_of_eqb : (a b : ℕ) → eqb a b ≡ false → a ≢ b
ne_of_eqb a b e same = both_ways (eqb a b) e (eq-eqb a b same)

-- a natural of 21 digits or more, with no leading zero, has more than 64 bits
large : (first second : ℕ) (others : List ℕ) → not (eqb first 48 && is_digit second) ≡ true → 19 ≤ length others
    → is_natural (first ∷ second ∷ others) ≡ true → 2 ^ 64 ≤ value_of (first ∷ second ∷ others)
unfolding is_natural value_of tens
large first second others lean long natural =
    let both = and_parts (is_digit first) (is_digit second && list_all is_digit others) natural in
    let next = (and_parts (is_digit second) (list_all is_digit others) both.1).0 in
    let least : 48 ≤ first = leb-true 48 first (and_parts (nat_le 48 first) (nat_le first 57) both.0).0 in
    let some : 1 ≤ 0 + (first - 48) = omega (arith, by_test (eqb first 48) refl next least) in
    let more : tens 20 1 ≤ digits_from (0 + (first - 48)) (second ∷ others) =
    grows_by 20 (second ∷ others) 1 (0 + (first - 48)) (omega (arith, long)) some in
    let enough : 2 ^ 64 ≤ tens 20 1 = lit≤ tt in
    le_trans enough more
  where
    by_test : (b : Bool) → eqb first 48 ≡ b → is_digit second ≡ true → 48 ≤ first → 1 ≤ first - 48
    by_test true e digit least =
        let no_digit : is_digit second ≡ false = zero_first (is_digit second) (rw e at lean) in
        absurd (both_ways (is_digit second) no_digit digit)
    by_test false e digit least = omega (arith, least, ne_of_eqb first 48 e)

pub SameWord-long : (word rest : List ℕ) (byte : ℕ) → is_lean word ≡ true → length word ≡ 21 → SameWord (word ++ rest) (word ++ byte ∷ rest)
SameWord-long [] rest byte lean long = absurd (omega (arith, long))
SameWord-long (first ∷ []) rest byte lean long = absurd (omega (arith, long))
SameWord-long (first ∷ second ∷ others) rest byte lean long = record {
  keyword = λ wanted is.
      let short = leb-true (length wanted) 9 (and_parts (nat_le (length wanted) 9) (list_all (λ b. not (is_digit b)) wanted) is).0 in
      too_long (first ∷ second ∷ (others ++ rest)) wanted short (omega (arith, long, length-append others rest))
      ∙ sym (too_long (first ∷ second ∷ (others ++ byte ∷ rest)) wanted short (omega (arith, long, length-append others (byte ∷ rest))));
  number = λ bound below.
      none bound (others ++ rest) below (omega (arith, long, length-append others rest))
      ∙ sym (none bound (others ++ byte ∷ rest) below (omega (arith, long, length-append others (byte ∷ rest))));
}
  where
    none : (bound : ℕ) (tail : List ℕ) → bound ≤ 2 ^ 64 → 19 ≤ length tail → number_below bound (first ∷ second ∷ tail) ≡ None
    none bound tail below enough = by_test (is_natural (first ∷ second ∷ tail)) refl
      where
        by_test : (b : Bool) → is_natural (first ∷ second ∷ tail) ≡ b → number_below bound (first ∷ second ∷ tail) ≡ None
        by_test false e = rw e refl
        by_test true e =
            let past : bound ≤ value_of (first ∷ second ∷ tail) = omega (arith, below, large first second tail lean enough e) in
            rw (e, le-ltb (value_of (first ∷ second ∷ tail)) bound past) refl

-- ---- lines

pub SameWords-refl : (words : List (List ℕ)) → SameWords words words
SameWords-refl [] = tt
SameWords-refl (word ∷ words) = (SameWord-refl word, SameWords-refl words)

pub SameWords-trans : (a b c : List (List ℕ)) → SameWords a b → SameWords b c → SameWords a c
SameWords-trans [] [] [] first second = tt
SameWords-trans [] [] (z ∷ c) first second = absurd second
SameWords-trans [] (y ∷ b) c first second = absurd first
SameWords-trans (x ∷ a) [] c first second = absurd first
SameWords-trans (x ∷ a) (y ∷ b) [] first second = absurd second
SameWords-trans (x ∷ a) (y ∷ b) (z ∷ c) first second =
    (SameWord-trans x y z first.0 second.0, SameWords-trans a b c first.1 second.1)

SameWords-take : (n : ℕ) (a b : List (List ℕ)) → SameWords a b → SameWords (take n a) (take n b)
SameWords-take zero a b same = tt
SameWords-take (suc n) [] [] same = tt
SameWords-take (suc n) [] (y ∷ b) same = absurd same
SameWords-take (suc n) (x ∷ a) [] same = absurd same
SameWords-take (suc n) (x ∷ a) (y ∷ b) same = (same.0, SameWords-take n a b same.1)

SameWords-append : (words a b : List (List ℕ)) → SameWords a b → SameWords (words ++ a) (words ++ b)
SameWords-append [] a b same = same
SameWords-append (word ∷ words) a b same = (SameWord-refl word, SameWords-append words a b same)

pub SameLine-refl : (words : List (List ℕ)) → SameLine words words
SameLine-refl words = SameWords-refl (take 7 words)

pub SameLine-trans : (a b c : List (List ℕ)) → SameLine a b → SameLine b c → SameLine a c
SameLine-trans a b c first second = SameWords-trans (take 7 a) (take 7 b) (take 7 c) first second

-- behind the same words
pub SameLine-append : (words a b : List (List ℕ)) → SameWords a b → SameLine (words ++ a) (words ++ b)
SameLine-append words a b same = SameWords-take 7 (words ++ a) (words ++ b) (SameWords-append words a b same)

-- words past the seventh are not looked at
pub SameLine-many : (words more : List (List ℕ)) → 7 ≤ length words → SameLine words (words ++ more)
SameLine-many words more many = grind (arith, SameWords-refl)

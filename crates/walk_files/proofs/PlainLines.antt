-- A line whose words are all numbers is a walk line, and the numbers are its walk.
use Rattle.walk_files.proofs.Common.{◌≡◌, ℕ, ◌+◌, ◌<◌, ◌≤◌, ◌==◌, Bool, true, false, List, [], ◌∷◌, length, map, refl, sym, ap, ◌∙◌, arith, and_parts, list_all, codes, nat_lt, ◌||◌, if◌then◌else◌, Option, Some, None, option_map, Ok, Err, bytes_eq, darts, each_some, some_first, Line, is_filled, is_digit, is_natural, number_of, walk_on, token_of, behind_vertex, read_tokens, written_out, within_limits, TooLong, MOST_DARTS, MOST_WALK_DARTS, Number}

-- a word of digits is no parenthesis
digits_differ : (mark : ℕ) (word : List ℕ) → mark < 48 → list_all is_digit word ≡ true → bytes_eq word (mark ∷ []) ≡ false
digits_differ mark [] low digits = refl
digits_differ mark (byte ∷ word) low digits =
    let first = (and_parts (is_digit byte) (list_all is_digit word) digits).0 in
    let other : (byte == mark) ≡ false = grind (arith, first, low) in rw other refl

natural_digits : (word : List ℕ) → is_natural word ≡ true → list_all is_digit word ≡ true
unfolding is_natural
natural_digits word natural = (and_parts (is_filled word) (list_all is_digit word) natural).1

number_digits : (word : List ℕ) (number : ℕ) → number_of word ≡ Some number → list_all is_digit word ≡ true
number_digits word number is = by_test (is_natural word) refl
  where
    by_test : (natural : Bool) → is_natural word ≡ natural → list_all is_digit word ≡ true
    by_test true e = natural_digits word e
    by_test false e =
        let none : number_of word ≡ None = rw e refl in
        absurd (let wrong = sym none ∙ is in cc)

token_number : (word : List ℕ) (number : ℕ) → number_of word ≡ Some number → token_of word ≡ Some (Number number)
token_number word number is =
    let digits = number_digits word number is in
    let opens : bytes_eq word (codes "(") ≡ false = digits_differ 40 word (omega arith) digits in
    let closes : bytes_eq word (codes ")") ≡ false = digits_differ 41 word (omega arith) digits in
    rw (opens, closes, is) refl

tokens_plain : (words : List (List ℕ)) (numbers : List ℕ) → each_some number_of words ≡ Some numbers
    → each_some token_of words ≡ Some (map Number numbers)
tokens_plain [] numbers is = ap (option_map (map Number)) is
tokens_plain (word ∷ words) numbers is = by_parts (number_of word) (each_some number_of words) refl (tokens_plain words) is
  where
    by_parts : (first : Option ℕ) (rest : Option (List ℕ)) → number_of word ≡ first
        → ((others : List ℕ) → rest ≡ Some others → each_some token_of words ≡ Some (map Number others))
        → some_first first rest ≡ Some numbers → some_first (token_of word) (each_some token_of words) ≡ Some (map Number numbers)
    by_parts None rest e later both = cc
    by_parts (Some number) None e later both = cc
    by_parts (Some number) (Some others) e later both =
        rw (token_number word number e, later others refl) (ap (option_map (map Number)) both)

behind_plain : (vertex : ℕ) (numbers : List ℕ) → behind_vertex vertex None (map Number numbers) ≡ Some numbers
behind_plain vertex [] = refl
behind_plain vertex (next ∷ numbers) = rw (behind_plain next numbers) refl

pub walk_on-plain : (line : Line) (walk : List ℕ) → each_some number_of line.words ≡ Some walk → 0 < length walk → walk_on line ≡ Ok walk
walk_on-plain line [] words some = absurd (omega (arith, some))
walk_on-plain line (first ∷ walk) words some =
    ap (read_tokens written_out line.number) (tokens_plain line.words (first ∷ walk) words) ∙ rw (behind_plain first walk) refl

-- ---- how long such a walk is

-- with the walks before it, it is too long
pub plain_long : (line : Line) (total : ℕ) (walk : List ℕ) → each_some number_of line.words ≡ Some walk → 0 < length walk
    → MOST_DARTS < total + darts walk → Err (TooLong line.number) ≡ within_limits line.number total (walk_on line)
plain_long line total walk words some long =
    let over : nat_lt MOST_DARTS (total + darts walk) ≡ true = grind (arith, long) in
    sym
    (ap (within_limits line.number total) (walk_on-plain line walk words some)
    ∙ rw over (by_length (nat_lt MOST_WALK_DARTS (darts walk))))
  where
    by_length : (alone : Bool) → (if alone || true then Err (TooLong line.number) else Ok walk) ≡ Err (TooLong line.number)
    by_length true = refl
    by_length false = refl

-- it is not too long
pub plain_short : (line : Line) (total : ℕ) (walk : List ℕ) → each_some number_of line.words ≡ Some walk → 0 < length walk
    → darts walk ≤ MOST_WALK_DARTS → total + darts walk ≤ MOST_DARTS → within_limits line.number total (walk_on line) ≡ Ok walk
plain_short line total walk words some few all_few =
    let alone : nat_lt MOST_WALK_DARTS (darts walk) ≡ false = grind (arith, few) in
    let together : nat_lt MOST_DARTS (total + darts walk) ≡ false = grind (arith, all_few) in
    ap (within_limits line.number total) (walk_on-plain line walk words some) ∙ rw (alone, together) refl

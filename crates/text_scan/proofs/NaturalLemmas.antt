-- Digits, and words that are numbers.
use Rattle.text_scan.proofs.Common.{◌≡◌, ℕ, zero, suc, ◌+◌, ◌-◌, ◌*◌, ◌<◌, ◌≤◌, Bool, true, false, cond, not, eqb, ◌&&◌, ◌||◌, List, [], ◌∷◌, ◌++◌, length, take, drop, get_or, fold, refl, sym, ap, ◌∙◌, append_assoc, append-nil, take-append-drop, arith, le_trans, and_parts, and_left, and_right, leb-true, common_steps, take_all, list_all-append, fold-append, cond_some, list_all, list_any, before_first, after_first, position_or_len, Some, None, position, bytes_eq, codes, is_filled, is_digit, is_natural, value_of, unsigned, is_exponent_mark, is_decimal, has_exponent_or_none, is_unsigned_text, begins_with, IsPastDigits}
use Rattle.text_scan.proofs.ListLemmas.{nowhere}
use Rattle.text_scan.proofs.StepLemmas.{after_head, by_head}

-- ---- past digits

pub past_digit : (bytes rest : List ℕ) → 1 ≤ length rest → is_digit (get_or rest 0 0) ≡ true → IsPastDigits bytes rest
    → IsPastDigits bytes (after_head rest)
past_digit bytes =
    by_head (λ first rest after. is_digit first ≡ true → IsPastDigits bytes rest → IsPastDigits bytes after)
    (λ byte rest digit so_far. record {
      digits = so_far.digits ++ byte ∷ [];
      parts = so_far.parts ∙ sym (append_assoc so_far.digits (byte ∷ []) rest);
      all = list_all-append is_digit so_far.digits (byte ∷ []) ∙ rw (so_far.all, digit) refl;
    })

pub all_digits : (bytes after : List ℕ) → eqb (length bytes) 0 ≡ false → IsPastDigits bytes after → begins_with is_digit after ≡ false
    → eqb (length after) 0 ≡ is_natural bytes
unfolding is_natural
all_digits [] after some h stop = cc
all_digits (byte ∷ bytes) [] some h stop = sym (ap (list_all is_digit) h.parts ∙ ap (list_all is_digit) (append-nil h.digits) ∙ h.all)
all_digits (byte ∷ bytes) (other ∷ after) some h stop =
    let some_left : eqb (length (other ∷ after)) 0 ≡ false = grind arith in
    some_left ∙ sym (ap (list_all is_digit) h.parts ∙ list_all-append is_digit h.digits (other ∷ after) ∙ and_right _ _ (and_left _ _ stop))

pub no_bytes : (bytes : List ℕ) → eqb (length bytes) 0 ≡ true → false ≡ is_natural bytes
unfolding is_natural
no_bytes [] none = refl
no_bytes (byte ∷ bytes) none = absurd (grind (arith, none))

-- ---- the value of digits

pub value_step : (digits : List ℕ) (i : ℕ) → i < length digits
    → value_of (take (i + 1) digits) ≡ value_of (take i digits) * 10 + (get_or digits i 0 - 48)
unfolding value_of
value_step digits i below = grind (arith, common_steps, fold-append)

value_grows : (digits : List ℕ) (value : ℕ) → value ≤ fold (λ value digit. value * 10 + (digit - 48)) value digits
value_grows [] value = omega arith
value_grows (digit ∷ digits) value =
    let later : value * 10 + (digit - 48) ≤ fold (λ value digit. value * 10 + (digit - 48)) (value * 10 + (digit - 48)) digits =
    value_grows digits (value * 10 + (digit - 48)) in
    le_trans (omega arith) later

value_take : (digits : List ℕ) (i : ℕ) → value_of (take i digits) ≤ value_of digits
unfolding value_of
value_take digits i =
    let whole = fold-append (λ value digit. value * 10 + (digit - 48)) 0 (take i digits) (drop i digits) in
    let same : fold (λ value digit. value * 10 + (digit - 48)) 0 (take i digits ++ drop i digits)
    ≡ fold (λ value digit. value * 10 + (digit - 48)) 0 digits
    = ap (fold (λ value digit. value * 10 + (digit - 48)) 0) (take-append-drop i digits) in
    omega (arith, whole, same, value_grows (drop i digits) (fold (λ value digit. value * 10 + (digit - 48)) 0 (take i digits)))

pub value_past : (digits : List ℕ) (i bound : ℕ) → i < length digits → bound ≤ value_of (take i digits) * 10 + (get_or digits i 0 - 48)
    → bound ≤ value_of digits
value_past digits i bound below past = omega (arith, value_step digits i below, value_take digits (i + 1), past)

digit_at : (digits : List ℕ) (i : ℕ) → list_all is_digit digits ≡ true → i < length digits → 48 ≤ get_or digits i 0
digit_at [] i all below = absurd (omega (arith, below))
digit_at (digit ∷ digits) zero all below = leb-true _ _ (and_parts _ _ (and_parts (is_digit digit) (list_all is_digit digits) all).0).0
digit_at (digit ∷ digits) (suc i) all below = digit_at digits i (and_parts (is_digit digit) (list_all is_digit digits) all).1
    (omega (arith, below))

pub natural_digit : (digits : List ℕ) (i : ℕ) → is_natural digits ≡ true → i < length digits → 48 ≤ get_or digits i 0
unfolding is_natural
natural_digit digits i natural below = digit_at digits i (and_parts (is_filled digits) (list_all is_digit digits) natural).1 below

-- ---- naturals in two parts

natural-append : (front back : List ℕ) → is_filled front ≡ true
    → is_natural (front ++ back) ≡ (list_all is_digit front && list_all is_digit back)
unfolding is_natural
natural-append [] back some = cc
natural-append (byte ∷ front) back some = list_all-append is_digit (byte ∷ front) back

filled : (bytes : List ℕ) → eqb (length bytes) 0 ≡ false → is_filled bytes ≡ true
filled [] some = cc
filled (byte ∷ bytes) some = refl

pub natural_both : (front back : List ℕ) → eqb (length front) 0 ≡ false → is_natural front ≡ true → eqb (length back) 0 ≡ false
    → is_natural back ≡ is_natural (front ++ back)
unfolding is_natural
natural_both front back some natural more = grind (arith, filled, natural-append)

pub natural_front : (front back : List ℕ) → eqb (length front) 0 ≡ false → is_natural front ≡ false → false ≡ is_natural (front ++ back)
unfolding is_natural
natural_front front back some other = grind (arith, filled, natural-append)

-- ---- words cut at their exponent

list_any-found : (p : ℕ → Bool) (xs : List ℕ) → position_or_len p xs < length xs → list_any p xs ≡ true
list_any-found p [] below = absurd (omega (arith, below))
list_any-found p (x ∷ xs) below = by_test (p x) refl below (list_any-found p xs)
  where
    by_test : (b : Bool) → p x ≡ b → cond (not b) (1 + position_or_len p xs) 0 < length (x ∷ xs)
        → (position_or_len p xs < length xs → list_any p xs ≡ true) → (b || list_any p xs) ≡ true
    by_test true e below later = refl
    by_test false e below later = later (omega (arith, below))

list_any-none : (p : ℕ → Bool) (xs : List ℕ) → length xs ≤ position_or_len p xs → list_any p xs ≡ false
list_any-none p [] past = refl
list_any-none p (x ∷ xs) past = by_test (p x) refl past (list_any-none p xs)
  where
    by_test : (b : Bool) → p x ≡ b → length (x ∷ xs) ≤ cond (not b) (1 + position_or_len p xs) 0
        → (length xs ≤ position_or_len p xs → list_any p xs ≡ false) → (b || list_any p xs) ≡ false
    by_test true e past later = absurd (omega (arith, past))
    by_test false e past later = later (omega (arith, past))

-- where the test first passes
record IsFirst (p : ℕ → Bool) (xs : List ℕ) (i : ℕ) : Type 0 where
  any : list_any p xs ≡ true
  before : before_first p xs ≡ take i xs
  after : after_first p xs ≡ take (length xs - (i + 1)) (drop (i + 1) xs)

is_first : (p : ℕ → Bool) (xs : List ℕ) (i : ℕ) → position p xs ≡ Some i → IsFirst p xs i
is_first p xs i e = grind (arith, common_steps, cond_some, list_any-found)

abbrev pub nan : List ℕ
nan = codes "nan"

abbrev pub inf : List ℕ
inf = codes "inf"

pub with_exponent : (text : List ℕ) (at : ℕ) → position is_exponent_mark text ≡ Some at → bytes_eq text nan ≡ false
    → bytes_eq text inf ≡ false → is_decimal (take at text) ≡ true
    → is_natural (unsigned (take (length text - (at + 1)) (drop (at + 1) text))) ≡ is_unsigned_text text
with_exponent text at e no_nan no_inf decimal =
    let first = is_first is_exponent_mark text at e in
    let any : list_any is_exponent_mark text ≡ true = first.any in
    let front : is_decimal (before_first is_exponent_mark text) ≡ true = ap is_decimal first.before ∙ decimal in
    let back : is_natural (unsigned (after_first is_exponent_mark text))
    ≡ is_natural (unsigned (take (length text - (at + 1)) (drop (at + 1) text)))
    = ap (λ t. is_natural (unsigned t)) first.after in
    sym (parts_of text true (is_natural (unsigned (after_first is_exponent_mark text))) no_nan no_inf front (rw any refl) ∙ back)
  where
    parts_of : (text : List ℕ) (front back : Bool) → bytes_eq text nan ≡ false → bytes_eq text inf ≡ false
        → is_decimal (before_first is_exponent_mark text) ≡ front
        → has_exponent_or_none text ≡ back → is_unsigned_text text ≡ (front && back)
    parts_of text front back no_nan no_inf first second = rw (no_nan, no_inf, first, second) refl

pub without_exponent : (text : List ℕ) → position is_exponent_mark text ≡ None → bytes_eq text nan ≡ false → bytes_eq text inf ≡ false
    → is_decimal text ≡ is_unsigned_text text
without_exponent text e no_nan no_inf =
    let past = nowhere is_exponent_mark text e in
    let none : list_any is_exponent_mark text ≡ false = list_any-none is_exponent_mark text past in
    let all : before_first is_exponent_mark text ≡ text = take_all (position_or_len is_exponent_mark text) text past in
    rw (no_nan, no_inf, none, all) (sym (and-true (is_decimal text)))
  where
    and-true : (b : Bool) → (b && true) ≡ b
    and-true true = refl
    and-true false = refl

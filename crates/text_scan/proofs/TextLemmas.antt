-- Number texts at the front of a text.
use Rattle.text_scan.proofs.Common.{◌≡◌, ℕ, ◌≤◌, Bool, true, false, not, eqb, ◌||◌, List, [], ◌∷◌, ◌++◌, length, get_or, refl, sym, ap, ap₂, subst, ◌∙◌, append_assoc, append-nil, arith, and_parts, and_from, not_from_false, or_left, or_right, both_ways, list_all-append, list_all, list_any, before_first, after_first, bytes_eq, codes, is_filled, is_blank, is_digit, is_natural, unsigned, is_point, is_exponent_mark, is_decimal, has_exponent_or_none, is_unsigned_text, is_number_text, ends_word, from_first, begins_with, begins_word, IsPast, IsPastDigits, IsPastDecimal, words_here, next_is_number_text}
use Rattle.text_scan.proofs.ListLemmas.{all_weaker, before_first-append, after_first-no}
use Rattle.text_scan.proofs.PlaceLemmas.{words_here-word}
use Rattle.text_scan.proofs.StepLemmas.{after_head, by_head, is_word, word_first, past_word, past_word_here, no_word}

abbrev is_plain : ℕ → Bool
is_plain byte = is_digit byte || is_point byte

-- ---- digits with a point or none

digit_no_point : (byte : ℕ) → is_digit byte ≡ true → is_point byte ≡ false
digit_no_point byte e = grind (arith, e)

digits_no_point : (digits : List ℕ) → list_all is_digit digits ≡ true → list_all (λ byte. not (is_point byte)) digits ≡ true
digits_no_point = all_weaker is_digit (λ byte. not (is_point byte)) (λ byte e. not_from_false (is_point byte) (digit_no_point byte e))

digits_plain : (digits : List ℕ) → list_all is_digit digits ≡ true → list_all is_plain digits ≡ true
digits_plain = all_weaker is_digit is_plain (λ byte. or_left (is_digit byte) (is_point byte))

after_first-append : (digits rest : List ℕ) → list_all is_digit digits ≡ true
    → after_first is_point (digits ++ rest) ≡ after_first is_point rest
after_first-append [] rest all = refl
after_first-append (byte ∷ digits) rest all =
    let both = and_parts (is_digit byte) (list_all is_digit digits) all in
    after_first-no is_point byte (digits ++ rest) (digit_no_point byte both.0) ∙ after_first-append digits rest both.1

-- the digits at the front are some where there is one
first_digits : (digits after : List ℕ) → begins_with is_digit (digits ++ after) ≡ true → begins_with is_digit after ≡ false
    → begins_with is_digit digits ≡ true
first_digits [] after first stop = absurd (both_ways (begins_with is_digit after) stop first)
first_digits (byte ∷ digits) after first stop = first

first_append : (digits more : List ℕ) → begins_with is_digit digits ≡ true → begins_with is_digit (digits ++ more) ≡ true
first_append [] more first = cc
first_append (byte ∷ digits) more first = first

natural_first : (digits : List ℕ) → begins_with is_digit digits ≡ true → list_all is_digit digits ≡ true → is_natural digits ≡ true
unfolding is_natural
natural_first [] first all = cc
natural_first (byte ∷ digits) first all = all

pub whole_digits : (bytes after : List ℕ) → begins_with is_digit bytes ≡ true → IsPastDigits bytes after
    → begins_with is_digit after ≡ false → IsPastDecimal bytes after
whole_digits bytes after first h stop =
    let some : begins_with is_digit h.digits ≡ true = first_digits h.digits after (ap (begins_with is_digit) (sym h.parts) ∙ first) stop in
    let front : before_first is_point h.digits ≡ h.digits
    = ap (before_first is_point) (sym (append-nil h.digits)) ∙ before_first-append is_point h.digits [] (digits_no_point h.digits h.all)
    ∙ append-nil h.digits in
    let back : after_first is_point h.digits ≡ [] = ap (after_first is_point) (sym (append-nil h.digits))
    ∙ after_first-append h.digits [] h.all in
    record {
      text = h.digits;
      parts = h.parts;
      plain = digits_plain h.digits h.all;
      first = some;
      decimal = ap₂ (λ a b. is_natural (a ++ b)) front back ∙ ap is_natural (append-nil h.digits) ∙ natural_first h.digits some h.all;
    }

pub with_fraction : (bytes rest after : List ℕ) → begins_with is_digit bytes ≡ true → IsPastDigits bytes (46 ∷ rest)
    → IsPastDigits rest after → IsPastDecimal bytes after
with_fraction bytes rest after first whole fraction =
    let some : begins_with is_digit whole.digits ≡ true = first_digits whole.digits (46 ∷ rest) (ap (begins_with is_digit) (sym whole.parts)
    ∙ first) refl in
    let front : before_first is_point (whole.digits ++ 46 ∷ fraction.digits) ≡ whole.digits
    = before_first-append is_point whole.digits (46 ∷ fraction.digits) (digits_no_point whole.digits whole.all) ∙ append-nil whole.digits in
    let back : after_first is_point (whole.digits ++ 46 ∷ fraction.digits) ≡ fraction.digits =
    after_first-append whole.digits (46 ∷ fraction.digits) whole.all in
    let all : list_all is_digit (whole.digits ++ fraction.digits) ≡ true = list_all-append is_digit whole.digits fraction.digits
    ∙ rw (whole.all, fraction.all) refl in
    record {
      text = whole.digits ++ 46 ∷ fraction.digits;
      parts = whole.parts ∙ ap (λ t. whole.digits ++ 46 ∷ t) fraction.parts ∙ sym (append_assoc whole.digits (46 ∷ fraction.digits) after);
      plain = list_all-append is_plain whole.digits (46 ∷ fraction.digits)
          ∙ and_from _ _ (digits_plain whole.digits whole.all) (digits_plain fraction.digits fraction.all);
      first = first_append whole.digits (46 ∷ fraction.digits) some;
      decimal = ap₂ (λ a b. is_natural (a ++ b)) front back
          ∙ natural_first (whole.digits ++ fraction.digits) (first_append whole.digits fraction.digits some) all;
    }

pub with_point : (bytes rest after : List ℕ) → begins_with is_digit bytes ≡ true → IsPastDigits bytes rest → 1 ≤ length rest
    → get_or rest 0 0 ≡ 46 → IsPastDigits (after_head rest) after → IsPastDecimal bytes after
with_point bytes rest after first whole some point fraction =
    by_head (λ head rest tail. IsPastDigits bytes rest → head ≡ 46 → IsPastDigits tail after → IsPastDecimal bytes after)
    (λ byte tail whole point fraction. with_fraction bytes tail after first (subst (λ b. IsPastDigits bytes (b ∷ tail)) point whole)
    fraction)
    rest some whole point fraction

-- ---- signs

record IsSigned (rest : List ℕ) : Type 0 where
  sign : List ℕ
  parts : rest ≡ sign ++ unsigned rest
  word : is_word sign ≡ true
  away : (text : List ℕ) → begins_with is_digit text ≡ true → unsigned (sign ++ text) ≡ text

digit_no_sign : (text : List ℕ) → begins_with is_digit text ≡ true → unsigned text ≡ text
digit_no_sign [] first = refl
digit_no_sign (byte ∷ text) first = grind arith

signed_by : (byte : ℕ) (rest : List ℕ) (b : Bool) → (eqb byte 43 || eqb byte 45) ≡ b → IsSigned (byte ∷ rest)
signed_by byte rest true e =
    let word : not (ends_word byte) ≡ true = grind (arith, e) in
    record { sign = byte ∷ []; parts = rw e refl; word = and_from _ _ word refl; away = λ text first. rw e refl }
signed_by byte rest false e = record { sign = []; parts = rw e refl; word = refl; away = digit_no_sign }

signed : (rest : List ℕ) → IsSigned rest
signed [] = record { sign = []; parts = refl; word = refl; away = digit_no_sign }
signed (byte ∷ rest) = signed_by byte rest (eqb byte 43 || eqb byte 45) refl

-- ---- number texts of the plainest kind

plain_in_word : (byte : ℕ) → is_plain byte ≡ true → not (ends_word byte) ≡ true
plain_in_word byte e = grind (arith, e)

plain_word : (text : List ℕ) → list_all is_plain text ≡ true → is_word text ≡ true
plain_word = all_weaker is_plain (λ byte. not (ends_word byte)) plain_in_word

plain_no_mark : (byte : ℕ) → is_plain byte ≡ true → is_exponent_mark byte ≡ false
plain_no_mark byte e = grind (arith, e)

no_mark : (text : List ℕ) → list_all is_plain text ≡ true
    → (list_all (λ byte. not (is_exponent_mark byte)) text ≡ true) × (list_any is_exponent_mark text ≡ false)
no_mark [] all = (refl, refl)
no_mark (byte ∷ text) all =
    let both = and_parts (is_plain byte) (list_all is_plain text) all in
    let none : is_exponent_mark byte ≡ false = plain_no_mark byte both.0 in
    let later = no_mark text both.1 in
    (and_from _ _ (not_from_false (is_exponent_mark byte) none) later.0, rw (none, later.1) refl)

plain_text : (text : List ℕ) → list_all is_plain text ≡ true → is_decimal text ≡ true → is_unsigned_text text ≡ true
plain_text text all decimal =
    let none = no_mark text all in
    let front : before_first is_exponent_mark text ≡ text
    = ap (before_first is_exponent_mark) (sym (append-nil text)) ∙ before_first-append is_exponent_mark text [] none.0 ∙ append-nil text in
    let first : is_decimal (before_first is_exponent_mark text) ≡ true = ap is_decimal front ∙ decimal in
    let second : has_exponent_or_none text ≡ true = rw none.1 refl in
    or_right (bytes_eq text (codes "nan") || bytes_eq text (codes "inf")) _ (and_from _ _ first second)

begins_filled : (sign text : List ℕ) → begins_with is_digit text ≡ true → is_filled (sign ++ text) ≡ true
begins_filled [] [] first = cc
begins_filled [] (byte ∷ text) first = refl
begins_filled (byte ∷ sign) text first = refl

pub plain_number : (rest after : List ℕ) → IsPastDecimal (unsigned rest) after → begins_word after ≡ false
    → (next_is_number_text (words_here rest) ≡ true) × IsPast 1 rest after
unfolding is_number_text
plain_number rest after h stop =
    let s = signed rest in
    let word : List ℕ = s.sign ++ h.text in
    let parts : rest ≡ word ++ after = s.parts ∙ ap (λ t. s.sign ++ t) h.parts ∙ sym (append_assoc s.sign h.text after) in
    let some : is_filled word ≡ true = begins_filled s.sign h.text h.first in
    let all : is_word word ≡ true = grind (arith, and_from, plain_word) in
    let is_text : is_number_text word ≡ true = ap is_unsigned_text (s.away h.text h.first) ∙ plain_text h.text h.plain h.decimal in (
      ap (λ t. next_is_number_text (words_here t)) parts ∙ ap next_is_number_text (word_first word after some all stop) ∙ is_text,
      subst (λ t. IsPast 1 t after) (sym parts) (past_word word after some all stop),
    )

-- ---- any number text

pub text_first : (rest word : List ℕ) → begins_word rest ≡ true → word ≡ before_first ends_word rest
    → next_is_number_text (words_here rest) ≡ is_number_text word
text_first rest word begin is = ap next_is_number_text (words_here-word rest begin) ∙ ap is_number_text (sym is)

pub no_text : (rest : List ℕ) → begins_with is_blank rest ≡ false → begins_word rest ≡ false → next_is_number_text (words_here rest) ≡ false
no_text rest no_blank e = ap next_is_number_text (no_word rest no_blank e)

pub past_text : (rest after : List ℕ) → begins_word rest ≡ true → after ≡ from_first ends_word rest → IsPast 1 rest after
past_text rest after begin is = subst (λ t. IsPast 1 rest t) (sym is) (past_word_here rest begin)

-- One step over the bytes of a text.
use Rattle.text_scan.proofs.Common.{◌≡◌, ◌≢◌, ℕ, ◌+◌, ◌-◌, ◌*◌, ◌/◌, ◌^◌, ◌<◌, ◌≤◌, min, Bool, true, false, cond, not, eqb, ◌||◌, List, [], ◌∷◌, ◌++◌, length, take, drop, get_or, length-append, length-drop, refl, sym, ap, subst, ◌∙◌, append_assoc, inl, inr, arith, cases_Bool, not-true, not-false, eq-eqb, and_parts, and_from, and_left, and_right, or_parts, common_steps, pow_more, take_all, get_or-drop, drop-drop, list_all-append, fold-append, list_all, before_first, position_or_len, onto_first, Some, None, option_map, is_filled, is_blank, cut_lines, lines_from, is_digit, is_natural, value_of, natural_of, ends_word, from_first, begins_with, begins_word, IsPast, ArePastDigits, IsLineEnd, is_line_feed, words_here, behind, next_natural}
use Rattle.std.proofs.Math.Nat.{min-eq_left, pow-le-pow_right}
use Rattle.text_scan.proofs.ListLemmas.{before_first-yes, before_first-no, from_first-yes, from_first-no, before_first-append, from_first-append}
use Rattle.text_scan.proofs.PlaceLemmas.{is_hash, words_here-nil, words_here-line_feed, words_here-hash, words_here-blank, words_here-word, behind-nil, behind-line_feed, behind-other, cut_first, lines_from_here}

-- all but the first byte, as the code takes it
abbrev pub after_head : List ℕ → List ℕ
after_head rest = take (length rest - 1) (drop 1 rest)

after_head-cons : (byte : ℕ) (rest : List ℕ) → after_head (byte ∷ rest) ≡ rest
after_head-cons byte rest = take_all (length (byte ∷ rest) - 1) rest (omega arith)

-- what holds of a list with a first byte holds of one as the code takes it apart
pub by_head : (P : ℕ → List ℕ → List ℕ → Type 0) → ((byte : ℕ) (rest : List ℕ) → P byte (byte ∷ rest) rest)
    → (rest : List ℕ) → 1 ≤ length rest → P (get_or rest 0 0) rest (after_head rest)
by_head P step [] h = absurd (omega (arith, h))
by_head P step (byte ∷ rest) h = subst (P byte (byte ∷ rest)) (sym (after_head-cons byte rest)) (step byte rest)

-- ---- bytes

blank_is_no_feed : (byte : ℕ) → is_blank byte ≡ true → is_line_feed byte ≡ false
blank_is_no_feed byte e = grind (arith, e)

hash_is_no_feed : (byte : ℕ) → is_hash byte ≡ true → is_line_feed byte ≡ false
hash_is_no_feed byte e = grind (arith, e)

-- ---- past blanks, and to the end of a line

pub here : (bytes : List ℕ) → IsPast 0 bytes bytes
here bytes = record { words = refl; behind = refl; shorter = omega arith }

pub past_blank : (bytes rest : List ℕ) → 1 ≤ length rest → is_blank (get_or rest 0 0) ≡ true → IsPast 0 bytes rest
    → IsPast 0 bytes (after_head rest)
past_blank bytes = grind (arith, common_steps, by_head, words_here-blank, behind, behind-other, blank_is_no_feed)

pub no_blank : (rest : List ℕ) → 1 ≤ length rest → is_blank (get_or rest 0 0) ≡ false → begins_with is_blank rest ≡ false
no_blank = by_head (λ first rest after. is_blank first ≡ false → begins_with is_blank rest ≡ false) (λ byte rest is_kind. is_kind)

-- a byte that is no line feed
pub on_in_line : (bytes rest : List ℕ) → 1 ≤ length rest → get_or rest 0 0 ≢ 10
    → (behind rest ≡ behind bytes) × (length rest ≤ length bytes)
    → (behind (after_head rest) ≡ behind bytes) × (length (after_head rest) ≤ length bytes)
on_in_line bytes = grind (arith, common_steps, by_head, behind, behind-other)

pub at_line_feed : (rest : List ℕ) → 1 ≤ length rest → get_or rest 0 0 ≡ 10 → words_here rest ≡ []
at_line_feed = grind (arith, common_steps, by_head, words_here-line_feed)

pub at_end : (rest : List ℕ) → length rest < 1 → words_here rest ≡ []
at_end [] h = words_here-nil
at_end (byte ∷ rest) h = absurd (omega (arith, h))

-- ---- to the first word

-- so far from line n on without a word
abbrev pub SoFar : ℕ → List ℕ → ℕ → List ℕ → Type 0
SoFar n bytes m rest = (lines_from n bytes ≡ lines_from m rest) × (m + length rest ≤ n + length bytes) × (n ≤ m)

-- lines from a place on do not change where its words and what is behind do not
same_lines : (n : ℕ) (rest after : List ℕ) → words_here rest ≡ words_here after → behind rest ≡ behind after
    → lines_from n rest ≡ lines_from n after
same_lines n rest after same_words same_behind = lines_from_here n rest ∙ rw (same_words, same_behind) (sym (lines_from_here n after))

no_words : (n : ℕ) (rest : List ℕ) → words_here rest ≡ [] → lines_from n rest ≡ lines_from (n + 1) (behind rest)
no_words n rest none = lines_from_here n rest ∙ rw none refl

pub pass_blank : (n m : ℕ) (bytes rest : List ℕ) → 1 ≤ length rest → is_blank (get_or rest 0 0) ≡ true → SoFar n bytes m rest
    → SoFar n bytes m (after_head rest)
pass_blank n m bytes = grind (arith, common_steps, by_head, same_lines, words_here-blank, behind-other, blank_is_no_feed)

pub pass_line_feed : (n m : ℕ) (bytes rest : List ℕ) → 1 ≤ length rest → get_or rest 0 0 ≡ 10 → SoFar n bytes m rest
    → SoFar n bytes (m + 1) (after_head rest)
pass_line_feed n m bytes = grind (arith, common_steps, by_head, no_words, words_here-line_feed, behind-line_feed)

pub pass_comment : (n m : ℕ) (bytes rest after : List ℕ) → 1 ≤ length rest → get_or rest 0 0 ≡ 35
    → words_here after ≡ [] → behind after ≡ behind (after_head rest) → length after ≤ length (after_head rest)
    → SoFar n bytes m rest → SoFar n bytes m after
pass_comment n m bytes rest after =
    grind (arith, common_steps, by_head, behind, same_lines, words_here-hash, behind-other, hash_is_no_feed)

pub no_more : (n m : ℕ) (bytes rest : List ℕ) → length rest < 1 → SoFar n bytes m rest → lines_from n bytes ≡ []
unfolding lines_from cut_lines
no_more n m bytes [] h so_far = so_far.0
no_more n m bytes (byte ∷ rest) h so_far = absurd (omega (arith, h))

-- ---- words

-- bytes that do not end a word
abbrev pub is_word : List ℕ → Bool
is_word = list_all (λ byte. not (ends_word byte))

ends_here : (after : List ℕ) → begins_word after ≡ false → (before_first ends_word after ≡ []) × (from_first ends_word after ≡ after)
ends_here [] e = (refl, refl)
ends_here (byte ∷ after) e = grind (arith, not-false, before_first-yes, from_first-yes)

word_begins : (word after : List ℕ) → is_filled word ≡ true → is_word word ≡ true → begins_word (word ++ after) ≡ true
word_begins [] after some all = cc
word_begins (byte ∷ word) after some all = (and_parts (not (ends_word byte)) (is_word word) all).0

-- a whole word
pub word_first : (word after : List ℕ) → is_filled word ≡ true → is_word word ≡ true → begins_word after ≡ false
    → words_here (word ++ after) ≡ word ∷ words_here after
word_first word after some all e =
    grind (arith, common_steps, ends_here, words_here-word, word_begins, before_first-append, from_first-append)

pub word_behind : (word after : List ℕ) → is_word word ≡ true → behind (word ++ after) ≡ behind after
word_behind [] after all = refl
word_behind (byte ∷ word) after all =
    let both = and_parts (not (ends_word byte)) (is_word word) all in
    behind-other byte (word ++ after) (in_word byte (not-true (ends_word byte) both.0)) ∙ word_behind word after both.1
  where
    in_word : (b : ℕ) → ends_word b ≡ false → is_line_feed b ≡ false
    in_word b e = (or_parts (is_blank b) (is_line_feed b) (or_parts (is_blank b || is_line_feed b) (is_hash b) e).0).1

pub past_word : (word after : List ℕ) → is_filled word ≡ true → is_word word ≡ true → begins_word after ≡ false
    → IsPast 1 (word ++ after) after
past_word word after some all e = grind (arith, common_steps, word_first, behind, word_behind)

-- ---- naturals

digit_in_word : (byte : ℕ) → is_digit byte ≡ true → not (ends_word byte) ≡ true
digit_in_word byte e = grind (arith, e)

pub digits_in_word : (digits : List ℕ) → list_all is_digit digits ≡ true → is_word digits ≡ true
digits_in_word [] all = refl
digits_in_word (byte ∷ digits) all =
    let both = and_parts (is_digit byte) (list_all is_digit digits) all in
    and_from _ _ (digit_in_word byte both.0) (digits_in_word digits both.1)

capped_step : (v d cap : ℕ) → min (min (min v cap * 10) cap + d) cap ≡ min (v * 10 + d) cap
capped_step v d cap = grind arith

pub no_digits : (bytes : List ℕ) → ArePastDigits bytes 0 bytes
unfolding value_of
no_digits bytes = record { digits = []; parts = refl; all = refl; value = refl }

pub one_digit : (bytes rest : List ℕ) (capped next : ℕ) → 1 ≤ length rest → is_digit (get_or rest 0 0) ≡ true
    → next ≡ min (min (capped * 10) (2 ^ 64 - 1) + (get_or rest 0 0 - 48)) (2 ^ 64 - 1) → ArePastDigits bytes capped rest
    → ArePastDigits bytes next (after_head rest)
unfolding value_of
one_digit bytes rest capped next =
    by_head
    (λ first rest after. is_digit first ≡ true → next ≡ min (min (capped * 10) (2 ^ 64 - 1) + (first - 48)) (2 ^ 64 - 1)
    → ArePastDigits bytes capped rest → ArePastDigits bytes next after)
    (λ byte rest digit is_next so_far. record {
      digits = so_far.digits ++ byte ∷ [];
      parts = so_far.parts ∙ sym (append_assoc so_far.digits (byte ∷ []) rest);
      all = list_all-append is_digit so_far.digits (byte ∷ []) ∙ rw (so_far.all, digit) refl;
      value = grind (arith, capped_step, fold-append);
    })
    rest

-- a digit more, where it fits
pub small_digit : (bytes rest : List ℕ) (capped : ℕ) → 1 ≤ length rest → is_digit (get_or rest 0 0) ≡ true → capped < (2 ^ 64 - 1) / 10
    → ArePastDigits bytes capped rest → ArePastDigits bytes (capped * 10 + (get_or rest 0 0 - 48)) (after_head rest)
small_digit bytes rest capped some digit small so_far =
    let low : get_or rest 0 0 - 48 < 10 = grind (arith, digit) in
    let first : min (capped * 10) (2 ^ 64 - 1) ≡ capped * 10 = min-eq_left (omega (arith, small)) in
    let second : min (capped * 10 + (get_or rest 0 0 - 48)) (2 ^ 64 - 1) ≡ capped * 10 + (get_or rest 0 0 - 48) = grind arith in
    one_digit bytes rest capped (capped * 10 + (get_or rest 0 0 - 48)) some digit
    (sym (ap (λ n. min (n + (get_or rest 0 0 - 48)) (2 ^ 64 - 1)) first ∙ second)) so_far

-- so many bytes at the front are digits, and the value that they stand for has no more digits than they
pub record FewDigits (bytes : List ℕ) (n value : ℕ) : Type 0 where
  pub past : ArePastDigits bytes value (drop n bytes)
  pub small : value < 10 ^ n

pub no_few : (bytes : List ℕ) → FewDigits bytes 0 0
no_few bytes = record { past = no_digits bytes; small = omega arith }

pub few_small : (bytes : List ℕ) (n value : ℕ) → n < 18 → FewDigits bytes n value → value < 10 ^ 17
few_small bytes n value few h =
    let less : n ≤ 17 = omega (arith, few) in
    let some : 0 < 10 = omega arith in
    let most : 10 ^ n ≤ 10 ^ 17 = pow-le-pow_right some less in
    omega (arith, h.small, most)

pub few_more : (bytes : List ℕ) (n value : ℕ) → n < length bytes → n < 18 → is_digit (get_or bytes n 0) ≡ true
    → FewDigits bytes n value → FewDigits bytes (n + 1) (value * 10 + (get_or bytes n 0 - 48))
few_more bytes n value below few digit h =
    let low : get_or bytes n 0 - 48 < 10 = grind (arith, digit) in
    let first : get_or (drop n bytes) 0 0 ≡ get_or bytes n 0 = get_or-drop n bytes 0 0 ∙ ap (λ k. get_or bytes k 0) (omega arith) in
    let behind : after_head (drop n bytes) ≡ drop (n + 1) bytes =
    take_all (length (drop n bytes) - 1) (drop 1 (drop n bytes)) (omega (arith, length-drop 1 (drop n bytes))) ∙ drop-drop 1 n bytes in
    let more : ArePastDigits bytes (value * 10 + (get_or (drop n bytes) 0 0 - 48)) (after_head (drop n bytes)) =
    small_digit bytes (drop n bytes) value (omega (arith, length-drop n bytes, below)) (ap is_digit first
    ∙ digit) (omega (arith, few_small bytes n value few h)) h.past in
    record {
      past = subst (λ t. ArePastDigits bytes (value * 10 + (t - 48)) (drop (n + 1) bytes)) first
          (subst (ArePastDigits bytes (value * 10 + (get_or (drop n bytes) 0 0 - 48))) behind more);
      small = omega (arith, h.small, pow_more 10 n, low);
    }

-- the digits at the front are a whole word
record IsNaturalFirst (rest : List ℕ) (capped : ℕ) (after : List ℕ) : Type 0 where
  value : option_map (λ n. min n (2 ^ 64 - 1)) (next_natural (words_here rest)) ≡ Some capped
  place : IsPast 1 rest after

some_digits : (digits after : List ℕ) → length after ≢ length (digits ++ after) → is_filled digits ≡ true
some_digits [] after h = absurd (h refl)
some_digits (byte ∷ digits) after h = refl

natural_first : (rest : List ℕ) (capped : ℕ) (after : List ℕ) → ArePastDigits rest capped after → length after ≢ length rest
    → begins_word after ≡ false
    → IsNaturalFirst rest capped after
unfolding is_natural
natural_first rest capped after h shorter e =
    let some : is_filled h.digits ≡ true = some_digits h.digits after (λ same. shorter (same ∙ sym (ap length h.parts))) in
    let all = digits_in_word h.digits h.all in
    let natural : is_natural h.digits ≡ true = and_from _ _ some h.all in
    let first : words_here rest ≡ h.digits ∷ words_here after = ap words_here h.parts ∙ word_first h.digits after some all e in
    record {
      value = ap (λ ws. option_map (λ n. min n (2 ^ 64 - 1)) (next_natural ws)) first ∙ rw natural (ap Some (sym h.value));
      place = subst (λ t. IsPast 1 t after) (sym h.parts) (past_word h.digits after some all e);
    }

pub natural_value : (rest : List ℕ) (capped : ℕ) (after : List ℕ) → ArePastDigits rest capped after → length after ≢ length rest
    → begins_word after ≡ false
    → Some capped ≡ option_map (λ n. min n (2 ^ 64 - 1)) (next_natural (words_here rest))
natural_value rest capped after h shorter e = sym (natural_first rest capped after h shorter e).value

pub natural_place : (rest : List ℕ) (capped : ℕ) (after : List ℕ) → ArePastDigits rest capped after → length after ≢ length rest
    → begins_word after ≡ false → IsPast 1 rest after
natural_place rest capped after h shorter e = (natural_first rest capped after h shorter e).place

-- a digit between a blank and the end of its word
record IsDigitFirst (rest : List ℕ) (number : ℕ) (after : List ℕ) : Type 0 where
  value : next_natural (words_here rest) ≡ Some number
  place : IsPast 1 rest after

digit_between : (digit : ℕ) (after : List ℕ) → is_digit digit ≡ true → begins_word after ≡ false
    → IsDigitFirst (32 ∷ digit ∷ after) (digit - 48) after
unfolding is_natural value_of
digit_between digit after kind ends =
    let all : list_all is_digit (digit ∷ []) ≡ true = and_from _ _ kind refl in
    let word = digits_in_word (digit ∷ []) all in
    let natural : is_natural (digit ∷ []) ≡ true = all in
    let past = past_word (digit ∷ []) after refl word ends in
    let same : words_here (32 ∷ digit ∷ after) ≡ words_here (digit ∷ after) = words_here-blank 32 (digit ∷ after) refl in
    let first : words_here (32 ∷ digit ∷ after) ≡ (digit ∷ []) ∷ words_here after = same ∙ word_first (digit ∷ []) after refl word ends in
    record {
      value = ap next_natural first ∙ rw natural (ap Some (omega arith));
      place = grind (arith, behind, behind-other);
    }

digit_first : (rest : List ℕ) → 3 ≤ length rest → get_or rest 0 0 ≡ 32 → is_digit (get_or rest 1 0) ≡ true
    → ends_word (get_or rest 2 0) ≡ true → IsDigitFirst rest (get_or rest 1 0 - 48) (take (length rest - 2) (drop 2 rest))
digit_first [] some blank kind ends = absurd (omega (arith, some))
digit_first (before ∷ []) some blank kind ends = absurd (omega (arith, some))
digit_first (before ∷ digit ∷ []) some blank kind ends = absurd (omega (arith, some))
digit_first (before ∷ digit ∷ next ∷ after) some blank kind ends =
    let all : take (length (before ∷ digit ∷ next ∷ after) - 2) (next ∷ after) ≡ next ∷ after =
    take_all (length (before ∷ digit ∷ next ∷ after) - 2) (next ∷ after) (omega arith) in
    subst (IsDigitFirst (before ∷ digit ∷ next ∷ after) (digit - 48)) (sym all)
    (subst (λ b. IsDigitFirst (b ∷ digit ∷ next ∷ after) (digit - 48) (next ∷ after)) (sym blank)
    (digit_between digit (next ∷ after) kind (rw ends refl)))

pub digit_value : (rest : List ℕ) (value : ℕ) → 3 ≤ length rest → get_or rest 0 0 ≡ 32 → is_digit (get_or rest 1 0) ≡ true
    → ends_word (get_or rest 2 0) ≡ true → value ≡ get_or rest 1 0 - 48 → next_natural (words_here rest) ≡ Some value
digit_value rest value some blank kind ends is = (digit_first rest some blank kind ends).value ∙ ap Some (sym is)

pub digit_place : (rest : List ℕ) → 3 ≤ length rest → get_or rest 0 0 ≡ 32 → is_digit (get_or rest 1 0) ≡ true
    → ends_word (get_or rest 2 0) ≡ true → IsPast 1 rest (take (length rest - 2) (drop 2 rest))
digit_place rest some blank kind ends = (digit_first rest some blank kind ends).place

-- a word goes on behind the digits
not_all_digits : (digits after : List ℕ) → begins_word after ≡ true → begins_with is_digit after ≡ false
    → is_natural (digits ++ before_first ends_word after) ≡ false
unfolding is_natural
not_all_digits digits [] word stop = cc
not_all_digits digits (byte ∷ after) word stop =
    let first = before_first-no ends_word byte after (not-true (ends_word byte) word) in
    and_right _ _ (ap (λ t. list_all is_digit (digits ++ t)) first ∙ list_all-append is_digit digits (byte ∷ before_first ends_word after)
    ∙ and_right _ _ (and_left _ _ stop))

word_goes_on : (digits after : List ℕ) → list_all is_digit digits ≡ true → begins_word after ≡ true → begins_with is_digit after ≡ false
    → next_natural (words_here (digits ++ after)) ≡ None
word_goes_on digits after all word stop =
    let in_word = digits_in_word digits all in
    let first : words_here (digits ++ after) ≡ before_first ends_word (digits ++ after)
    ∷ words_here (from_first ends_word (digits ++ after))
    = words_here-word (digits ++ after) (begins digits after in_word word) in
    ap next_natural first ∙ ap natural_of (before_first-append ends_word digits after in_word)
    ∙ rw (not_all_digits digits after word stop) refl
  where
    begins : (digits after : List ℕ) → is_word digits ≡ true → begins_word after ≡ true → begins_word (digits ++ after) ≡ true
    begins [] after all word = word
    begins (byte ∷ digits) after all word = (and_parts (not (ends_word byte)) (is_word digits) all).0

pub no_word : (rest : List ℕ) → begins_with is_blank rest ≡ false → begins_word rest ≡ false → words_here rest ≡ []
no_word [] no_blank e = words_here-nil
no_word (byte ∷ rest) no_blank e = grind (arith, not-false, no_blank, words_here-line_feed, words_here-hash)

pub no_natural : (rest : List ℕ) (capped : ℕ) (after : List ℕ) → ArePastDigits rest capped after → begins_with is_digit after ≡ false
    → begins_word after ≡ true
    → None ≡ option_map (λ n. min n (2 ^ 64 - 1)) (next_natural (words_here rest))
no_natural rest capped after h stop word = grind (arith, word_goes_on)

-- no digits at the front
pub no_natural_here : (rest : List ℕ) (capped : ℕ) (after : List ℕ) → ArePastDigits rest capped after → begins_with is_digit after ≡ false
    → begins_with is_blank rest ≡ false
    → length rest ≤ length after → None ≡ option_map (λ n. min n (2 ^ 64 - 1)) (next_natural (words_here rest))
no_natural_here rest capped after h stop no_blank same =
    let all : rest ≡ after = nothing h.digits after rest h.parts same in
    elim (cases_Bool (begins_word after)) as (λ _. None ≡ option_map (λ n. min n (2 ^ 64 - 1)) (next_natural (words_here rest))) [
      | inl word ↦ no_natural rest capped after h stop word
      | inr none ↦ ap (λ ws. option_map (λ n. min n (2 ^ 64 - 1)) (next_natural ws))
          (sym (no_word rest no_blank (ap begins_word all ∙ none)))
    ]
  where
    nothing : (digits after rest : List ℕ) → rest ≡ digits ++ after → length rest ≤ length after → rest ≡ after
    nothing [] after rest parts same = parts
    nothing (byte ∷ digits) after rest parts same = absurd (omega (arith, ap length parts, length-append digits after, same))

-- ---- whole words

behind-word : (rest : List ℕ) → behind (from_first ends_word rest) ≡ behind rest
behind-word [] = refl
behind-word (byte ∷ rest) = by_test (ends_word byte) refl (behind-word rest)
  where
    in_line : (b : ℕ) → ends_word b ≡ false → is_line_feed b ≡ false
    in_line b e = (or_parts (is_blank b) (is_line_feed b) (or_parts (is_blank b || is_line_feed b) (is_hash b) e).0).1

    by_test : (t : Bool) → ends_word byte ≡ t → behind (from_first ends_word rest) ≡ behind rest
        → behind (from_first ends_word (byte ∷ rest)) ≡ behind (byte ∷ rest)
    by_test true e later = ap behind (from_first-yes ends_word byte rest e)
    by_test false e later = ap behind (from_first-no ends_word byte rest e) ∙ later ∙ sym (behind-other byte rest (in_line byte e))

-- past the word at the front
pub past_word_here : (rest : List ℕ) → begins_word rest ≡ true → IsPast 1 rest (from_first ends_word rest)
past_word_here rest e = grind (arith, common_steps, words_here-word, behind, behind-word)

-- ---- lines

pub no_line_feed : (bytes rest : List ℕ) → eqb (length rest) 0 ≡ true → behind rest ≡ behind bytes → rest ≡ behind bytes
no_line_feed bytes [] e same = sym behind-nil ∙ same
no_line_feed bytes (byte ∷ rest) e same = absurd (grind (arith, e))

pub past_line_feed : (bytes rest : List ℕ) → eqb (length rest) 0 ≡ false → IsLineEnd rest → behind rest ≡ behind bytes
    → after_head rest ≡ behind bytes
past_line_feed bytes [] e feed same = absurd (grind (arith, e))
past_line_feed bytes (byte ∷ rest) e feed same = after_head-cons byte rest ∙ sym (behind-line_feed byte rest (eq-eqb byte 10 feed)) ∙ same

behind-shorter : (rest : List ℕ) → length (behind rest) ≤ length rest
unfolding behind
behind-shorter rest = omega (arith, length-drop (position_or_len is_line_feed rest + 1) rest)

-- one line more
pub one_line : (rest : List ℕ) → eqb (length rest) 0 ≡ false
    → (length (cut_lines rest) ≡ length (cut_lines (behind rest)) + 1) × (length (behind rest) < length rest)
one_line [] some = absurd (grind (arith, some))
one_line (byte ∷ rest) some = (omega (arith, ap length (cut_first byte rest)), shorter (is_line_feed byte) refl)
  where
    shorter : (b : Bool) → is_line_feed byte ≡ b → length (behind (byte ∷ rest)) < length (byte ∷ rest)
    shorter true e = omega (arith, ap length (behind-line_feed byte rest e))
    shorter false e = omega (arith, ap length (behind-other byte rest e), behind-shorter rest)

pub no_lines : (rest : List ℕ) → eqb (length rest) 0 ≡ true → length (cut_lines rest) ≡ 0
unfolding cut_lines
no_lines [] none = refl
no_lines (byte ∷ rest) none = absurd (grind (arith, none))

pub few_lines : (text : List ℕ) → length (cut_lines text) ≤ length text
unfolding cut_lines
few_lines [] = omega arith
few_lines (byte ∷ text) = by_test (is_line_feed byte) (cut_lines text) (few_lines text)
  where
    by_test : (b : Bool) (lines : List (List ℕ)) → length lines ≤ length text
        → length (cond b ([] ∷ lines) (onto_first byte lines)) ≤ length (byte ∷ text)
    by_test true lines few = omega (arith, few)
    by_test false [] few = omega (arith, few)
    by_test false (line ∷ lines) few = omega (arith, few)

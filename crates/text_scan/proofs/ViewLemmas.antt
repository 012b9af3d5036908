-- What the steps over the bytes are to what is left to read.
use Rattle.text_scan.proofs.Common.{◌≡◌, ℕ, ◌+◌, Bool, true, false, List, [], ◌∷◌, drop, refl, sym, ap, subst, ◌∙◌, take, filter, cond, ◌<◌, ◌≤◌, ◌^◌, ◌-◌, arith, Bor, eqb, length, common_steps, before_first, slice_split, onto_first, Option, Some, None, MatchOption, unwrap_or, cut_lines, is_filled, is_blank, words, unmarked, lines_from, full_lines, ends_word, begins_with, begins_word, IsPast, IsFirstWord, Unread, LinesLeft, lines_left, at_line, past_word, next_word, words_here, behind, unread_at}
use Rattle.std.specs.Cmp.Lexicographic.{pointwise}
use Rattle.text_scan.proofs.PlaceLemmas.{words_here-word, lines_from_here}
use Rattle.text_scan.proofs.StepLemmas.{no_word}

pub lines_left-unread_at : (text : List ℕ) (n : ℕ) (rest : List ℕ) → lines_left (unread_at text n rest) ≡ lines_from n rest
lines_left-unread_at text n rest = sym (lines_from_here n rest)

-- ---- the beginning of a text

pub starts_unmarked : (text : List ℕ) (stripped : Option (Bor (List ℕ))) (whole : Bor (List ℕ)) → whole.now ≡ text
    → MatchOption stripped (pointwise eqb (take 3 text) (239 ∷ 187 ∷ 191 ∷ []) ≡ false)
    (λ x. (pointwise eqb (take 3 text) (239 ∷ 187 ∷ 191 ∷ []) ≡ true) × (x.now ≡ drop 3 text) × (length x.now + 3 ≡ length text))
    → (unwrap_or stripped whole).now ≡ unmarked text
unfolding unmarked
starts_unmarked text None whole same h = rw h same
starts_unmarked text (Some x) whole same h = rw (h.0) h.1

pub starts : (whole text rest : List ℕ) → rest ≡ unmarked text → lines_left (unread_at whole 1 rest) ≡ full_lines text
starts whole text rest e = lines_left-unread_at whole 1 rest ∙ ap (lines_from 1) e

-- ---- the next line with words

record FindsNothing (unread : Unread) : Type 0 where
  found : false ≡ is_filled (lines_left unread)
  place : unread ≡ at_line unread (lines_left unread)

finds_nothing : (text : List ℕ) (n : ℕ) (rest : List ℕ) → lines_from n rest ≡ [] → FindsNothing (unread_at text n rest)
finds_nothing text n rest none = grind (arith, lines_left-unread_at)

pub none_found : (text : List ℕ) (n : ℕ) (rest : List ℕ) (unread : Unread) → unread_at text n rest ≡ unread → lines_from n rest ≡ []
    → false ≡ is_filled (lines_left unread)
none_found text n rest unread is none = (subst FindsNothing is (finds_nothing text n rest none)).found

pub none_place : (text : List ℕ) (n : ℕ) (rest : List ℕ) (unread : Unread) → unread_at text n rest ≡ unread → lines_from n rest ≡ []
    → unread ≡ at_line unread (lines_left unread)
none_place text n rest unread is none = (subst FindsNothing is (finds_nothing text n rest none)).place

record Finds (unread next : Unread) : Type 0 where
  found : true ≡ is_filled (lines_left unread)
  place : next ≡ at_line unread (lines_left unread)

finds : (text : List ℕ) (n : ℕ) (rest : List ℕ) (m : ℕ) (after : List ℕ) → IsFirstWord n rest m after
    → Finds (unread_at text n rest) (unread_at text m after)
finds text n rest m after h = grind (arith, words_here-word, behind, lines_from_here, lines_left-unread_at)

pub some_found : (text : List ℕ) (n : ℕ) (rest : List ℕ) (m : ℕ) (after : List ℕ) (unread : Unread) → unread_at text n rest ≡ unread
    → IsFirstWord n rest m after
    → true ≡ is_filled (lines_left unread)
some_found text n rest m after unread is h = (subst (λ u. Finds u (unread_at text m after)) is (finds text n rest m after h)).found

pub some_place : (text : List ℕ) (n : ℕ) (rest : List ℕ) (m : ℕ) (after : List ℕ) (unread : Unread) → unread_at text n rest ≡ unread
    → IsFirstWord n rest m after
    → unread_at text m after ≡ at_line unread (lines_left unread)
some_place text n rest m after unread is h = (subst (λ u. Finds u (unread_at text m after)) is (finds text n rest m after h)).place

-- a line that is found has a word left
pub some_filled : (n : ℕ) (rest : List ℕ) (m : ℕ) (after : List ℕ) → IsFirstWord n rest m after → is_filled (words_here after) ≡ true
some_filled n rest m after h = ap is_filled (words_here-word after h.word)

-- ---- a word further on in the line

pub moved : (text : List ℕ) (n : ℕ) (rest after : List ℕ) (unread : Unread) → unread_at text n rest ≡ unread → IsPast 1 rest after
    → unread_at text n after ≡ past_word unread
moved text n rest after unread is h = grind (arith, past_word, behind)

-- ---- words left

filled_here : (rest : List ℕ) → begins_with is_blank rest ≡ false → begins_word rest ≡ is_filled (words_here rest)
filled_here rest no_blank = by_test (begins_word rest) refl
  where
    by_test : (b : Bool) → begins_word rest ≡ b → begins_word rest ≡ is_filled (words_here rest)
    by_test true e = e ∙ sym (ap is_filled (words_here-word rest e))
    by_test false e = e ∙ sym (ap is_filled (no_word rest no_blank e))

pub has_word : (text : List ℕ) (n : ℕ) (rest after : List ℕ) (unread : Unread) → unread_at text n rest ≡ unread → IsPast 0 rest after
    → begins_with is_blank after ≡ false
    → begins_word after ≡ is_filled unread.words
has_word text n rest after unread is h no_blank = grind (arith, filled_here)

pub no_word_left : (text : List ℕ) (n : ℕ) (rest after : List ℕ) (unread : Unread) → unread_at text n rest ≡ unread → IsPast 0 rest after
    → begins_with is_blank after ≡ false
    → begins_word after ≡ false → unread.words ≡ []
no_word_left text n rest after unread is h no_blank e = sym (ap (λ (u : Unread). u.words) is) ∙ sym h.words ∙ no_word after no_blank e

-- the word at the front
pub word_left : (text : List ℕ) (n : ℕ) (rest after word : List ℕ) (unread : Unread) → unread_at text n rest ≡ unread
    → IsPast 0 rest after → begins_word after ≡ true
    → word ≡ before_first ends_word after → Some word ≡ next_word unread.words
word_left text n rest after word unread is h begin same = grind (arith, next_word, words_here-word)

pub both_past : (n m : ℕ) (first second third : List ℕ) → IsPast n first second → IsPast m second third → IsPast (n + m) first third
both_past n m first second third h k = grind (arith, common_steps, behind)

pub moved_past : (text : List ℕ) (n : ℕ) (rest start after : List ℕ) (unread : Unread) → unread_at text n rest ≡ unread
    → IsPast 0 rest start → IsPast 1 start after
    → unread_at text n after ≡ past_word unread
moved_past text n rest start after unread is h k = moved text n rest after unread is (both_past 0 1 rest start after h k)

pub nothing_past : (unread : Unread) → unread.words ≡ [] → unread ≡ past_word unread
nothing_past unread none = grind arith

-- ---- how many words are left

few_parts : (line : List ℕ) → length (filter is_filled (slice_split is_blank line)) ≤ length line
few_parts [] = omega arith
few_parts (byte ∷ line) = by_test (is_blank byte) (slice_split is_blank line) (few_parts line)
  where
    by_test : (b : Bool) (parts : List (List ℕ)) → length (filter is_filled parts) ≤ length line
        → length (filter is_filled (cond b ([] ∷ parts) (onto_first byte parts))) ≤ length (byte ∷ line)
    by_test true parts few = omega (arith, few)
    by_test false [] few = omega (arith, few)
    by_test false ([] ∷ parts) few = omega (arith, few)
    by_test false ((first ∷ part) ∷ parts) few = omega (arith, few)

few_words : (rest : List ℕ) → length (words_here rest) ≤ length rest
unfolding words_here words
few_words rest = grind (arith, common_steps, few_parts)

-- further on there are no more words than bytes
pub few_left : (n : ℕ) (rest start after : List ℕ) → 0 < n → n + length rest < 2 ^ 64 → IsPast 0 rest start → IsPast 1 start after
    → length (words_here after) < 2 ^ 64 - 1
few_left n rest start after some fits h k = omega (arith, some, fits, few_words after, h.shorter, k.shorter)

pub few_here : (text : List ℕ) (n : ℕ) (rest : List ℕ) (unread : Unread) → unread_at text n rest ≡ unread → 0 < n
    → n + length rest < 2 ^ 64 → length unread.words < 2 ^ 64 - 1
few_here text n rest unread is some fits = omega (arith, some, fits, few_words rest, ap (λ (u : Unread). length u.words) is)

-- ---- line by line

pub a_line : (n m : ℕ) (rest found after text : List ℕ) (left : LinesLeft)
    → record { lines = lines_from n rest; count = length (cut_lines text) } ≡ left → IsFirstWord n rest m found
    → words_here after ≡ [] → behind after ≡ behind found
    → left ≡ record { lines = record { number = m; words = words_here found } ∷ lines_from m after; count = length (cut_lines text) }
a_line n m rest found after text left is h none same = grind (arith, words_here-word, behind, lines_from_here)

pub none_in_line : (rest after : List ℕ) (left : List (List ℕ)) → words_here rest ≡ left → IsPast 0 rest after
    → begins_with is_blank after ≡ false → begins_word after ≡ false → left ≡ []
none_in_line rest after left is h no_blank e = sym is ∙ sym h.words ∙ no_word after no_blank e

pub first_in_line : (rest after word : List ℕ) (left : List (List ℕ)) → words_here rest ≡ left → IsPast 0 rest after
    → begins_word after ≡ true
    → word ≡ before_first ends_word after → Some word ≡ next_word left
first_in_line rest after word left is h begin same = grind (arith, next_word, words_here-word)

pub others_in_line : (rest start after : List ℕ) (left : List (List ℕ)) → words_here rest ≡ left → IsPast 0 rest start
    → IsPast 1 start after → words_here after ≡ drop 1 left
others_in_line rest start after left is h k = k.words ∙ ap (λ (ws : List (List ℕ)). drop 1 ws) (h.words ∙ is)

-- The words of the present line and the lines behind it, byte by byte from a place in a text.
use Rattle.text_scan.proofs.Common.{◌≡◌, ℕ, ◌+◌, Bool, true, false, cond, eqb, ◌||◌, List, [], ◌∷◌, filter, refl, sym, ap, ◌∙◌, inl, inr, arith, or_parts, or_cases, not-true, eqb-true, ne_eqb, before_first, slice_split, onto_first, is_filled, is_blank, uncommented, cut_lines, words, lines_from, ends_word, from_first, begins_word, is_line_feed, words_here, behind}
use Rattle.text_scan.proofs.ListLemmas.{before_first-yes, before_first-no, after_first-yes, after_first-no, from_first-yes, from_first-no}

abbrev pub is_hash : ℕ → Bool
is_hash byte = eqb byte 35

-- ---- the parts between the blanks of a line, empty ones among them

abbrev parts : List ℕ → List (List ℕ)
parts rest = slice_split is_blank (uncommented (before_first is_line_feed rest))

words_are_parts : (rest : List ℕ) → words_here rest ≡ filter is_filled (parts rest)
unfolding words_here words
words_are_parts rest = refl

parts_at_line_feed : (byte : ℕ) (rest : List ℕ) → is_line_feed byte ≡ true → parts (byte ∷ rest) ≡ [] ∷ []
parts_at_line_feed byte rest e = ap (λ t. slice_split is_blank (uncommented t)) (before_first-yes is_line_feed byte rest e)

parts_at_hash : (byte : ℕ) (rest : List ℕ) → is_line_feed byte ≡ false → is_hash byte ≡ true → parts (byte ∷ rest) ≡ [] ∷ []
parts_at_hash byte rest no_feed e = grind (arith, before_first-no, before_first-yes)

parts_at_other : (byte : ℕ) (rest : List ℕ) → is_line_feed byte ≡ false → is_hash byte ≡ false
    → parts (byte ∷ rest) ≡ cond (is_blank byte) ([] ∷ parts rest) (onto_first byte (parts rest))
parts_at_other byte rest no_feed no_hash = grind (arith, before_first-no)

-- a blank is no other mark
blank_only : (byte : ℕ) → is_blank byte ≡ true → (is_line_feed byte ≡ false) × (is_hash byte ≡ false)
blank_only byte e = grind (arith, e)

hash_only : (byte : ℕ) → is_hash byte ≡ true → is_line_feed byte ≡ false
hash_only byte e = ne_eqb byte 10 (λ is. omega (arith, eqb-true byte 35 e, is))

parts_at_blank : (byte : ℕ) (rest : List ℕ) → is_blank byte ≡ true → parts (byte ∷ rest) ≡ [] ∷ parts rest
parts_at_blank byte rest blank = grind (arith, blank_only, parts, parts_at_other)

parts_in_word : (byte : ℕ) (rest : List ℕ) → ends_word byte ≡ false → parts (byte ∷ rest) ≡ onto_first byte (parts rest)
parts_in_word byte rest e = grind (arith, or_parts, parts, parts_at_other)

-- ---- the words left

pub words_here-nil : words_here [] ≡ []
unfolding words_here words
words_here-nil = refl

pub words_here-line_feed : (byte : ℕ) (rest : List ℕ) → is_line_feed byte ≡ true → words_here (byte ∷ rest) ≡ []
words_here-line_feed byte rest e = words_are_parts (byte ∷ rest) ∙ ap (filter is_filled) (parts_at_line_feed byte rest e)

pub words_here-hash : (byte : ℕ) (rest : List ℕ) → is_hash byte ≡ true → words_here (byte ∷ rest) ≡ []
words_here-hash byte rest e = grind (arith, hash_only, words_are_parts, parts_at_hash)

pub words_here-blank : (byte : ℕ) (rest : List ℕ) → is_blank byte ≡ true → words_here (byte ∷ rest) ≡ words_here rest
words_here-blank byte rest e = grind (arith, words_are_parts, parts_at_blank)

-- the first part ends where a word ends
record StartsParts (rest : List ℕ) : Type 0 where
  others : List (List ℕ)
  split : parts rest ≡ before_first ends_word rest ∷ others
  full : filter is_filled others ≡ words_here (from_first ends_word rest)

starts_at_end : (rest : List ℕ) → before_first ends_word rest ≡ [] → from_first ends_word rest ≡ rest
    → (others : List (List ℕ)) → parts rest ≡ [] ∷ others → StartsParts rest
starts_at_end rest none all others split = grind (arith, words_are_parts, from_first, parts)

starts_by_cases : (byte : ℕ) (rest : List ℕ) → (b : Bool) → ends_word byte ≡ b → StartsParts rest → StartsParts (byte ∷ rest)
starts_by_cases byte rest false e before =
    record {
      others = before.others;
      split = parts_in_word byte rest e ∙ ap (onto_first byte) before.split
          ∙ ap (λ t. t ∷ before.others) (sym (before_first-no ends_word byte rest e));
      full = before.full ∙ ap words_here (sym (from_first-no ends_word byte rest e));
    }
starts_by_cases byte rest true e before =
    let none = before_first-yes ends_word byte rest e in
    let all = from_first-yes ends_word byte rest e in
    elim (or_cases (is_blank byte || is_line_feed byte) (is_hash byte) e) as (λ _. StartsParts (byte ∷ rest)) [
      | inl here ↦ elim (or_cases (is_blank byte) (is_line_feed byte) here) as (λ _. StartsParts (byte ∷ rest)) [
        | inl blank ↦ starts_at_end (byte ∷ rest) none all (parts rest) (parts_at_blank byte rest blank)
        | inr feed ↦ starts_at_end (byte ∷ rest) none all [] (parts_at_line_feed byte rest feed)
      ]
      | inr hash ↦ let no_feed : is_line_feed byte ≡ false = hash_only byte hash in
          starts_at_end (byte ∷ rest) none all [] (parts_at_hash byte rest no_feed hash)
    ]

starts : (rest : List ℕ) → StartsParts rest
starts [] = starts_at_end [] refl refl [] refl
starts (byte ∷ rest) = starts_by_cases byte rest (ends_word byte) refl (starts rest)

-- the first word, and those behind it
pub words_here-word : (rest : List ℕ) → begins_word rest ≡ true
    → words_here rest ≡ before_first ends_word rest ∷ words_here (from_first ends_word rest)
words_here-word [] e = cc
words_here-word (byte ∷ rest) e =
    let inside : ends_word byte ≡ false = not-true (ends_word byte) e in
    let begin = starts (byte ∷ rest) in
    let filled : is_filled (before_first ends_word (byte ∷ rest)) ≡ true = ap is_filled (before_first-no ends_word byte rest inside) in
    words_are_parts (byte ∷ rest) ∙ ap (filter is_filled) begin.split
    ∙ rw filled (ap (λ t. before_first ends_word (byte ∷ rest) ∷ t) begin.full)

-- ---- the lines behind

pub behind-nil : behind [] ≡ []
unfolding behind
behind-nil = refl

pub behind-line_feed : (byte : ℕ) (rest : List ℕ) → is_line_feed byte ≡ true → behind (byte ∷ rest) ≡ rest
unfolding behind
behind-line_feed byte rest e = after_first-yes is_line_feed byte rest e

pub behind-other : (byte : ℕ) (rest : List ℕ) → is_line_feed byte ≡ false → behind (byte ∷ rest) ≡ behind rest
unfolding behind
behind-other byte rest e = after_first-no is_line_feed byte rest e

-- a text that is not empty begins with its first line
abbrev pub BeginsWithLine : List ℕ → Type 0
BeginsWithLine rest = cut_lines rest ≡ before_first is_line_feed rest ∷ cut_lines (behind rest)

cut_by_cases : (byte : ℕ) (rest : List ℕ) → (b : Bool) → is_line_feed byte ≡ b
    → onto_first byte (cut_lines rest) ≡ (byte ∷ before_first is_line_feed rest) ∷ cut_lines (behind rest) → BeginsWithLine (byte ∷ rest)
unfolding cut_lines
cut_by_cases byte rest true e others = rw (behind-line_feed byte rest e, before_first-yes is_line_feed byte rest e, e) refl
cut_by_cases byte rest false e others = rw (behind-other byte rest e, before_first-no is_line_feed byte rest e, e) others

pub cut_first : (byte : ℕ) (rest : List ℕ) → BeginsWithLine (byte ∷ rest)
unfolding cut_lines behind
cut_first byte [] = cut_by_cases byte [] (is_line_feed byte) refl refl
cut_first byte (next ∷ rest) = cut_by_cases byte (next ∷ rest) (is_line_feed byte) refl (ap (onto_first byte) (cut_first next rest))

-- what is left from a place on, the present line first if it has words left
pub lines_from_here : (n : ℕ) (rest : List ℕ)
    → lines_from n rest ≡ cond (is_filled (words_here rest)) (record { number = n; words = words_here rest }
    ∷ lines_from (n + 1) (behind rest)) (lines_from (n + 1) (behind rest))
unfolding lines_from words_here words cut_lines behind
lines_from_here n [] = refl
lines_from_here n (byte ∷ rest) = grind (arith, cut_first)

-- The header of a mesh text.
use Rattle.off_reader.proofs.Common.{present_line, Keyword, two_naturals, counted, counts_at, bare_counts, counts_behind, keyword_of, header_of, line_before, NoCounts, BadCounts, TooMany, ◌≡◌, ℕ, ◌-◌, ◌^◌, ◌<◌, ◌≤◌, ◌⊎◌, min, Bool, true, false, cond, leb, ◌&&◌, List, [], ◌∷◌, refl, sym, ap, ◌∙◌, inl, inr, arith, min-le_left, min-eq_left, min-eq_right, cases_lt, and_left, and_right, le-leb, lt-leb, cond_some, none-some, same_Some, Option, Some, None, option_map, Ok, Err, MOST_VERTICES, Line, is_natural, value_of, natural_of, Unread, lines_left, next_natural}
use Rattle.off_reader.specs.declared.header.TheConstants.{MOST_FACES}

pub no_cap : (o : Option ℕ) → None ≡ option_map (λ n. min n (2 ^ 64 - 1)) o → o ≡ None
no_cap None e = refl
no_cap (Some n) e = absurd (none-some (min n (2 ^ 64 - 1)) e)

-- a number, and what is kept of it
pub record IsCapped (o : Option ℕ) (n : ℕ) : Type 0 where
  pub whole : ℕ
  pub is : o ≡ Some whole
  pub capped : n ≡ min whole (2 ^ 64 - 1)

pub a_cap : (o : Option ℕ) (n : ℕ) → Some n ≡ option_map (λ n. min n (2 ^ 64 - 1)) o → IsCapped o n
a_cap None n e = absurd (none-some n (sym e))
a_cap (Some whole) n e = record { whole = whole; is = refl; capped = same_Some n (min whole (2 ^ 64 - 1)) e }

pub no_natural : (word : List ℕ) → natural_of word ≡ None → is_natural word ≡ false
no_natural word e = by_test (is_natural word) refl e
  where
    by_test : (b : Bool) → is_natural word ≡ b → cond b (Some (value_of word)) None ≡ None → is_natural word ≡ false
    by_test true is e = absurd (none-some (value_of word) (sym e))
    by_test false is e = is

pub bad_first : (c number : ℕ) (first : List ℕ) (words : List (List ℕ)) (lines : List Line) → natural_of first ≡ None
    → counts_at c (record { number = number; words = first ∷ words } ∷ lines) ≡ Err (BadCounts number)
unfolding counts_at
bad_first c number first [] lines e = refl
bad_first c number first (word ∷ words) lines e = rw (no_natural first e) refl

pub bad_second : (c number : ℕ) (first : List ℕ) (words : List (List ℕ)) (lines : List Line) → next_natural words ≡ None
    → counts_at c (record { number = number; words = first ∷ words } ∷ lines) ≡ Err (BadCounts number)
unfolding counts_at
bad_second c number first [] lines e = refl
bad_second c number first (word ∷ words) lines e = rw (and_right (is_natural first) (is_natural word) (no_natural word e)) refl

two : (first : List ℕ) (words : List (List ℕ)) (v f : ℕ) → natural_of first ≡ Some v → next_natural words ≡ Some f
    → two_naturals (first ∷ words) ≡ Some (v, f)
two first [] v f e g = absurd (none-some f g)
two first (word ∷ words) v f e g =
    let a = cond_some (is_natural first) (value_of first) v e in
    let b = cond_some (is_natural word) (value_of word) f g in
    rw (a.0, b.0, a.1, b.1) refl

two_counts : (c number : ℕ) (first : List ℕ) (words : List (List ℕ)) (lines : List Line) (v f : ℕ) → natural_of first ≡ Some v
    → next_natural words ≡ Some f
    → counts_at c (record { number = number; words = first ∷ words } ∷ lines)
    ≡ counted c (record { number = number; words = first ∷ words }) lines (Some (v, f))
unfolding counts_at
two_counts c number first words lines v f e g = ap (counted c (record { number = number; words = first ∷ words }) lines)
    (two first words v f e g)

pub kept : (whole n bound : ℕ) → n ≡ min whole (2 ^ 64 - 1) → n ≤ bound → bound < 2 ^ 64 - 1 → n ≡ whole
kept whole n bound e small below =
    elim (cases_lt (2 ^ 64 - 1) whole) as (λ _. n ≡ whole) [
      | inl above ↦ let big : min whole (2 ^ 64 - 1) ≡ 2 ^ 64 - 1 = min-eq_right (omega (arith, above)) in
          absurd (omega (arith, e, big, small, below))
      | inr fits ↦ e ∙ min-eq_left fits
    ]

more : (whole n bound : ℕ) → n ≡ min whole (2 ^ 64 - 1) → bound < n → bound < whole
more whole n bound e above = omega (arith, e, above, min-le_left whole (2 ^ 64 - 1))

pub good_counts : (c number : ℕ) (first : List ℕ) (words : List (List ℕ)) (lines : List Line) (v f : ℕ)
    → Some v ≡ option_map (λ n. min n (2 ^ 64 - 1)) (natural_of first)
    → Some f ≡ option_map (λ n. min n (2 ^ 64 - 1)) (next_natural words) → v ≤ MOST_VERTICES → f ≤ MOST_FACES
    → counts_at c (record { number = number; words = first ∷ words } ∷ lines)
    ≡ Ok (record { coordinates = c; vertices = v; faces = f; lines = lines })
good_counts c number first words lines v f e g small_v small_f =
    let a = a_cap (natural_of first) v e in
    let b = a_cap (next_natural words) f g in
    let same_v : v ≡ a.whole = kept a.whole v MOST_VERTICES a.capped small_v (omega arith) in
    let same_f : f ≡ b.whole = kept b.whole f MOST_FACES b.capped small_f (omega arith) in
    let few_v : leb a.whole MOST_VERTICES ≡ true = le-leb _ _ (omega (arith, same_v, small_v)) in
    let few_f : leb b.whole MOST_FACES ≡ true = le-leb _ _ (omega (arith, same_f, small_f)) in
    two_counts c number first words lines a.whole b.whole a.is b.is ∙ rw (few_v, few_f, sym same_v, sym same_f) refl

pub many_counts : (c number : ℕ) (first : List ℕ) (words : List (List ℕ)) (lines : List Line) (v f : ℕ)
    → Some v ≡ option_map (λ n. min n (2 ^ 64 - 1)) (natural_of first)
    → Some f ≡ option_map (λ n. min n (2 ^ 64 - 1)) (next_natural words) → (MOST_VERTICES < v) ⊎ (MOST_FACES < f)
    → counts_at c (record { number = number; words = first ∷ words } ∷ lines) ≡ Err (TooMany number)
many_counts c number first words lines v f e g many =
    let a = a_cap (natural_of first) v e in
    let b = a_cap (next_natural words) f g in
    let over : (leb a.whole MOST_VERTICES && leb b.whole MOST_FACES) ≡ false
    = elim many as (λ _. (leb a.whole MOST_VERTICES && leb b.whole MOST_FACES) ≡ false) [
      | inl large ↦ and_left _ _ (lt-leb _ _ (more a.whole v MOST_VERTICES a.capped large))
      | inr large ↦ and_right _ _ (lt-leb _ _ (more b.whole f MOST_FACES b.capped large))
    ] in
    two_counts c number first words lines a.whole b.whole a.is b.is ∙ rw over refl

-- ---- the lines of the counts

no_line : (c n : ℕ) (words : List (List ℕ)) (lines : List Line) → line_before (record { number = n; words = words }) lines ≡ []
    → bare_counts c (record { number = n; words = words }) lines ≡ Err NoCounts
unfolding counts_at
no_line c n [] lines none = ap (counts_at c) none
no_line c n (word ∷ words) lines none = cc

pub no_line_behind : (c : ℕ) (u : Unread) → lines_left u ≡ [] → bare_counts c (present_line u) u.lines ≡ Err NoCounts
no_line_behind c u none = no_line c u.line u.words u.lines none

pub no_header : (lines : List Line) → lines ≡ [] → header_of lines ≡ Err NoCounts
unfolding header_of
no_header lines none = ap header_of none

pub keyword_header : (left lines : List Line) (n : ℕ) (word : List ℕ) (words : List (List ℕ)) (keyword : Keyword)
    → left ≡ record { number = n; words = word ∷ words } ∷ lines → Some keyword ≡ keyword_of word
    → header_of left ≡ counts_behind keyword (record { number = n; words = words }) lines
unfolding header_of
keyword_header left lines n word words keyword is e = ap header_of is ∙ rw (sym e) refl

pub plain_header : (left lines : List Line) (n : ℕ) (word : List ℕ) (words : List (List ℕ))
    → left ≡ record { number = n; words = word ∷ words } ∷ lines → None ≡ keyword_of word
    → header_of left ≡ counts_at 3 (record { number = n; words = word ∷ words } ∷ lines)
unfolding header_of
plain_header left lines n word words is e = ap header_of is ∙ rw (sym e) refl

-- Short lines, byte by byte.
use Rattle.file_pieces.proofs.Common.{SameLine, ShortText, text_before, Stands, IsShortLine, HasEnded, PutsByte, is_lean, ◌≡◌, ℕ, ◌+◌, ◌<◌, Bool, true, false, eqb, not, ◌&&◌, ◌||◌, List, [], ◌∷◌, ◌++◌, length, drop, refl, sym, ap, subst, ◌∙◌, arith, append_assoc, append-nil, length-append, and_parts, and_from, or_parts, not-true, not_from_false, both_ways, eqb-true, common_steps, list_all-append, list_all, before_first, bytes_eq, is_hash, words_here-nil, words_here-line_feed, words_here-hash, words_here-blank, words_here-word, behind-nil, behind-other, lines_from_here, is_filled, is_blank, words, cut_lines, unmarked, lines_from, full_lines, is_digit, is_line_feed, words_here, behind}
use Rattle.std.specs.Prelude.{cond}
use Rattle.text_scan.proofs.ListLemmas.{before_first-append, before_first-yes, before_first-no, from_first-append, from_first-yes}
use Rattle.text_scan.specs.Steps.{ends_word, begins_word, from_first}
use Rattle.file_pieces.proofs.SameLemmas.{ne_of_eqb, SameWord-refl, SameWord-zero, SameWord-long, SameWords-refl, SameLine-refl, SameLine-trans, SameLine-append, SameLine-many}

abbrev pub is_word : List ℕ → Bool
is_word = list_all (λ byte. not (ends_word byte))

-- ---- the words of a line

-- what is behind a line feed is no part of the line
cut_line : (line after : List ℕ) → before_first is_line_feed (line ++ 10 ∷ after) ≡ before_first is_line_feed line
cut_line [] after = before_first-yes is_line_feed 10 after refl
cut_line (byte ∷ line) after = by_test (is_line_feed byte) refl (cut_line line after)
  where
    by_test : (b : Bool) → is_line_feed byte ≡ b → before_first is_line_feed (line ++ 10 ∷ after) ≡ before_first is_line_feed line
        → before_first is_line_feed (byte ∷ (line ++ 10 ∷ after)) ≡ before_first is_line_feed (byte ∷ line)
    by_test true e others =
        before_first-yes is_line_feed byte (line ++ 10 ∷ after) e ∙ sym (before_first-yes is_line_feed byte line e)
    by_test false e others =
        before_first-no is_line_feed byte (line ++ 10 ∷ after) e ∙ ap (λ t. byte ∷ t) others
        ∙ sym (before_first-no is_line_feed byte line e)

pub words_here-cut : (line after : List ℕ) → words_here (line ++ 10 ∷ after) ≡ words_here line
unfolding words_here
words_here-cut line after = ap words (cut_line line after)

begins : (word after : List ℕ) → is_filled word ≡ true → is_word word ≡ true → begins_word (word ++ after) ≡ true
begins [] after some all = cc
begins (byte ∷ word) after some all = (and_parts (not (ends_word byte)) (is_word word) all).0

-- a word that has begun, and what goes on with it
word_goes_on : (word after : List ℕ) → is_filled word ≡ true → is_word word ≡ true
    → words_here (word ++ after) ≡ (word ++ before_first ends_word after) ∷ words_here (from_first ends_word after)
word_goes_on word after some all = grind (arith, words_here-word, begins, before_first-append, from_first-append)

-- or what ends it
word_ends : (word : List ℕ) (mark : ℕ) (after : List ℕ) → is_filled word ≡ true → is_word word ≡ true → ends_word mark ≡ true
    → words_here (word ++ mark ∷ after) ≡ word ∷ words_here (mark ∷ after)
word_ends word mark after some all ends = grind (arith, common_steps, word_goes_on, before_first-yes, ends, from_first-yes)

-- ---- a word that is kept

-- what a byte makes of it
pub zero_replaced : (old new : List ℕ) (byte : ℕ) → is_digit byte ≡ true → bytes_eq old (48 ∷ []) ≡ true → new ≡ byte ∷ []
    → ends_word byte ≡ false → PutsByte old new byte
zero_replaced [] new byte digit zero is goes_on = cc
zero_replaced (first ∷ next ∷ old) new byte digit zero is goes_on = absurd (both_ways false refl (and_parts (eqb first 48) false zero).1)
zero_replaced (first ∷ []) new byte digit zero is goes_on = grind (arith, SameWord-zero, and_from, not_from_false, goes_on)

lean_more : (old : List ℕ) (byte : ℕ) → is_lean old ≡ true → (is_digit byte && bytes_eq old (48 ∷ [])) ≡ false
    → is_lean (old ++ byte ∷ []) ≡ true
lean_more [] byte lean no_zero = refl
lean_more (first ∷ []) byte lean no_zero = by_tests (eqb first 48) (is_digit byte) no_zero
  where
    by_tests : (zero digit : Bool) → (digit && (zero && true)) ≡ false → not (zero && digit) ≡ true
    by_tests true true e = cc
    by_tests true false e = refl
    by_tests false digit e = refl
lean_more (first ∷ second ∷ old) byte lean no_zero = lean

filled-last : (old : List ℕ) (byte : ℕ) → is_filled (old ++ byte ∷ []) ≡ true
filled-last [] byte = refl
filled-last (first ∷ old) byte = refl

inside_more : (old : List ℕ) (byte : ℕ) → is_word old ≡ true → ends_word byte ≡ false → is_word (old ++ byte ∷ []) ≡ true
inside_more old byte inside goes_on = grind (arith, common_steps, and_from, not_from_false, goes_on)

pub byte_put : (old new : List ℕ) (byte : ℕ) → is_lean old ≡ true → is_word old ≡ true → ends_word byte ≡ false
    → (is_digit byte && bytes_eq old (48 ∷ [])) ≡ false → length old < 21 → new ≡ old ++ byte ∷ [] → PutsByte old new byte
byte_put old new byte lean inside goes_on no_zero room is =
    grind (arith, common_steps, SameWord-refl, filled-last, lean_more, inside_more, goes_on)

pub byte_left_out : (old : List ℕ) (byte : ℕ) → is_lean old ≡ true → is_word old ≡ true → length old ≡ 21 → PutsByte old old byte
byte_left_out old byte lean inside long = record {
  same = λ rest. SameWord-long old rest byte lean long;
  filled = some old long;
  short = omega (arith, long);
  lean = lean;
  inside = inside;
}
  where
    some : (word : List ℕ) → length word ≡ 21 → is_filled word ≡ true
    some [] long = absurd (omega (arith, long))
    some (first ∷ word) long = refl

-- ---- a line

no_feed : (byte : ℕ) → ends_word byte ≡ false → is_line_feed byte ≡ false
no_feed byte e = (or_parts (is_blank byte) (is_line_feed byte) (or_parts (is_blank byte || is_line_feed byte) (is_hash byte) e).0).1

word_alone : (word : List ℕ) → is_word word ≡ true → list_all (λ b. not (is_line_feed b)) word ≡ true
word_alone [] inside = refl
word_alone (byte ∷ word) inside =
    let parts = and_parts (not (ends_word byte)) (is_word word) inside in
    and_from _ _ (not_from_false (is_line_feed byte) (no_feed byte (not-true (ends_word byte) parts.0))) (word_alone word parts.1)

blank_first : (done more : List ℕ) → done ≡ 32 ∷ drop 1 done → done ++ more ≡ 32 ∷ drop 1 (done ++ more)
blank_first [] more is = cc
blank_first (byte ∷ done) more is = let first : byte ≡ 32 = cc in ap (λ b. b ∷ (done ++ more)) first

pub starts_short : (done : List ℕ) (closed begun : Bool) → done ≡ 32 ∷ [] → closed ≡ false
    → IsShortLine (record { done = done; word = []; closed = closed; begun = begun }) 0
starts_short done closed begun is open_yet =
    subst (λ d. IsShortLine (record { done = d; word = []; closed = closed; begun = begun }) 0) (sym is) (record {
      first = refl;
      alone = refl;
      room = omega arith;
      few = omega arith;
      going_on = λ _. omega arith;
      ended = λ _. refl;
      closes = λ after. words_here-blank 32 after refl ∙ ap (λ ws. ws ++ words_here after) (sym none);
      count = ap (λ (ws : List (List ℕ)). length ws) none;
      short = omega arith;
      inside = refl;
      lean = refl;
    })
  where
    none : words_here (32 ∷ []) ≡ []
    none = words_here-blank 32 [] refl ∙ words_here-nil

pub starts_standing : (done : List ℕ) (line : ShortText) → line ≡ record { done = done; word = []; closed = false; begun = false }
    → done ≡ 32 ∷ [] → Stands line []
starts_standing done line is blank = grind (arith, words_here-blank, SameLine-refl)

-- what a word that ends leaves
record Ends (line : ShortText) (done : List ℕ) : Type 0 where
  words : words_here done ≡ words_here line.done ++ line.word ∷ []
  closes : (after : List ℕ) → words_here (done ++ after) ≡ words_here done ++ words_here after

pub word_ended : (line : ShortText) (count : ℕ) → IsShortLine line count → is_filled line.word ≡ true → (mark : ℕ) (after : List ℕ)
    → ends_word mark ≡ true
    → words_here (line.done ++ (line.word ++ mark ∷ after)) ≡ (words_here line.done ++ line.word ∷ []) ++ words_here (mark ∷ after)
word_ended line count short some mark after ends = grind (arith, common_steps, word_ends, ends)

ends : (line : ShortText) (count : ℕ) → IsShortLine line count → is_filled line.word ≡ true
    → Ends line ((line.done ++ line.word) ++ 32 ∷ [])
ends line count short some =
    let before : List (List ℕ) = words_here line.done ++ line.word ∷ [] in
    let parts : (after : List ℕ) → ((line.done ++ line.word) ++ 32 ∷ []) ++ after ≡ line.done ++ (line.word ++ 32 ∷ after) =
    λ after. append_assoc (line.done ++ line.word) (32 ∷ []) after ∙ append_assoc line.done line.word (32 ∷ after) in
    let behind_it : (after : List ℕ) → words_here (((line.done ++ line.word) ++ 32 ∷ []) ++ after) ≡ before ++ words_here after =
    λ after. ap words_here (parts after) ∙ word_ended line count short some 32 after refl
    ∙ ap (λ ws. before ++ ws) (words_here-blank 32 after refl) in
    let alone : words_here ((line.done ++ line.word) ++ 32 ∷ []) ≡ before =
    ap words_here (sym (append-nil ((line.done ++ line.word) ++ 32 ∷ []))) ∙ behind_it [] ∙ ap (λ ws. before ++ ws) words_here-nil
    ∙ append-nil before in
    record { words = alone; closes = λ after. behind_it after ∙ ap (λ ws. ws ++ words_here after) (sym alone) }

-- the word has ended
pub has_ended : (line : ShortText) (count : ℕ) (done : List ℕ) (closed : Bool) → IsShortLine line count → is_filled line.word ≡ true
    → done ≡ (line.done ++ line.word) ++ 32 ∷ [] → closed ≡ eqb (count + 1) 7
    → HasEnded line.done line.word (record { done = done; word = []; closed = closed; begun = line.begun })
has_ended line count done closed short some is by_count =
    let left : Ends line done = subst (Ends line) (sym is) (ends line count short some) in
    record {
      ended = λ mark after e. word_ended line count short some mark after e ∙ ap (λ ws. ws ++ words_here (mark ∷ after)) (sym left.words);
      closes = left.closes;
      many = λ e. omega (
        arith,
        eqb-true (count + 1) 7 (sym by_count ∙ e),
        ap (λ (ws : List (List ℕ)). length ws) left.words,
        length-append (words_here line.done) (line.word ∷ []),
        short.count,
      );
    }

pub short_ended : (line : ShortText) (count : ℕ) (done : List ℕ) (closed : Bool) → IsShortLine line count → line.closed ≡ false
    → is_filled line.word ≡ true → done ≡ (line.done ++ line.word) ++ 32 ∷ [] → closed ≡ eqb (count + 1) 7
    → IsShortLine (record { done = done; word = []; closed = closed; begun = line.begun }) (count + 1)
short_ended line count done closed short going some is by_count =
    let left : Ends line done = subst (Ends line) (sym is) (ends line count short some) in
    let below : count < 7 = short.going_on going in
    record {
      first = is ∙ ap (λ d. d) (whole_first) ∙ ap (λ d. 32 ∷ drop 1 d) (sym is);
      alone = ap (list_all (λ b. not (is_line_feed b))) is
          ∙ list_all-append (λ b. not (is_line_feed b)) (line.done ++ line.word) (32 ∷ [])
          ∙ and_from _ _ (list_all-append (λ b. not (is_line_feed b)) line.done line.word ∙ and_from _ _ short.alone (word_alone line.word
          short.inside)) refl;
      room = omega (
        arith,
        ap (λ (t : List ℕ). length t) is,
        length-append (line.done ++ line.word) (32 ∷ []),
        length-append line.done line.word,
        short.room,
        short.short,
      );
      few = omega (arith, below);
      going_on = λ e. fewer (sym by_count ∙ e);
      ended = λ _. refl;
      closes = left.closes;
      count = ap (λ (ws : List (List ℕ)). length ws) left.words ∙ length-append (words_here line.done) (line.word ∷ [])
          ∙ ap (λ n. n + 1) short.count;
      short = omega arith;
      inside = refl;
      lean = refl;
    }
  where
    whole_first : (line.done ++ line.word) ++ 32 ∷ [] ≡ 32 ∷ drop 1 ((line.done ++ line.word) ++ 32 ∷ [])
    whole_first = blank_first (line.done ++ line.word) (32 ∷ []) (blank_first line.done line.word short.first)

    fewer : eqb (count + 1) 7 ≡ false → count + 1 < 7
    fewer e = omega (arith, short.going_on going, ne_of_eqb (count + 1) 7 e)

-- nothing has ended where no word has begun
pub none_ended : (line : ShortText) (count : ℕ) → IsShortLine line count → line.closed ≡ false → length line.word ≡ 0
    → HasEnded line.done line.word line
none_ended line count short going none = record {
  ended = λ mark after e. ap (λ w. words_here (line.done ++ (w ++ mark ∷ after))) (empty line.word none) ∙ short.closes (mark ∷ after);
  closes = short.closes;
  many = λ e. absurd (both_ways line.closed going e);
}
  where
    empty : (word : List ℕ) → length word ≡ 0 → word ≡ []
    empty [] none = refl
    empty (byte ∷ word) none = absurd (omega (arith, none))

-- a byte goes on with the word
pub goes_on : (done old new : List ℕ) (byte : ℕ) → ((after : List ℕ) → words_here (done ++ after) ≡ words_here done ++ words_here after)
    → is_word old ≡ true → ends_word byte ≡ false → PutsByte old new byte → (after : List ℕ)
    → SameLine (words_here (done ++ (new ++ after))) (words_here (done ++ (old ++ byte ∷ after)))
goes_on done old new byte closes inside goes puts after =
    let rest : List ℕ = before_first ends_word after in
    let others : List (List ℕ) = words_here (from_first ends_word after) in
    let here : words_here (done ++ (new ++ after)) ≡ words_here done ++ (new ++ rest) ∷ others = grind (arith, word_goes_on) in
    let there : words_here (done ++ (old ++ byte ∷ after)) ≡ words_here done ++ (old ++ byte ∷ rest) ∷ others =
    closes (old ++ byte ∷ after)
    ∙ ap (λ ws. words_here done ++ ws) (ap words_here (sym (append_assoc old (byte ∷ []) after))
    ∙ word_goes_on (old ++ byte ∷ []) after (filled-last old byte) (inside_more old byte inside goes)
    ∙ ap (λ w. w ∷ others) (append_assoc old (byte ∷ []) rest)) in
    subst (λ ws. SameLine ws (words_here (done ++ (old ++ byte ∷ after)))) (sym here)
    (subst (λ ws. SameLine (words_here done ++ (new ++ rest) ∷ others) ws) (sym there)
    (SameLine-append (words_here done) ((new ++ rest) ∷ others) ((old ++ byte ∷ rest) ∷ others) (puts.same rest, SameWords-refl others)))

-- ---- a line stands for what was put

-- what the line is before a byte that counts
before_byte : (old : ShortText) (bytes : List ℕ) (byte : ℕ) (after : List ℕ) → old.closed ≡ false → Stands old bytes
    → SameLine (words_here (old.done ++ (old.word ++ byte ∷ after))) (words_here ((bytes ++ byte ∷ []) ++ after))
before_byte old bytes byte after going stands = grind (arith, common_steps)

-- a blank
pub stands_blank : (old new : ShortText) (bytes : List ℕ) (byte : ℕ) → old.closed ≡ false → is_blank byte ≡ true
    → HasEnded old.done old.word new → new.word ≡ [] → new.begun ≡ true → Stands old bytes → Stands new (bytes ++ byte ∷ [])
stands_blank old new bytes byte going blank ended none begun stands = record {
  same = λ after.
      SameLine-trans (words_here (text_before new after)) (words_here new.done ++ words_here (byte ∷ after)) _ (here after new.closed refl)
      (subst (λ ws. SameLine ws (words_here ((bytes ++ byte ∷ []) ++ after))) (ended.ended byte after ends_it)
      (before_byte old bytes byte after going stands));
  begun = begun ∙ sym (filled-last bytes byte);
}
  where
    ends_it : ends_word byte ≡ true
    ends_it = rw blank refl

    here : (after : List ℕ) (b : Bool) → new.closed ≡ b
        → SameLine (words_here (text_before new after)) (words_here new.done ++ words_here (byte ∷ after))
    here after true e =
        let text : text_before new after ≡ new.done = rw e refl in
        subst (λ t. SameLine (words_here t) (words_here new.done ++ words_here (byte ∷ after))) (sym text)
        (SameLine-many (words_here new.done) (words_here (byte ∷ after)) (ended.many e))
    here after false e =
        let text : text_before new after ≡ new.done ++ (new.word ++ after) = rw e refl in
        let same : words_here (text_before new after) ≡ words_here new.done ++ words_here (byte ∷ after) =
        ap words_here (text ∙ ap (λ w. new.done ++ (w ++ after)) none) ∙ ended.closes after
        ∙ ap (λ ws. words_here new.done ++ ws) (sym (words_here-blank byte after blank)) in
        subst (λ ws. SameLine ws (words_here new.done ++ words_here (byte ∷ after))) (sym same)
        (SameLine-refl (words_here new.done ++ words_here (byte ∷ after)))

-- the beginning of a comment
pub stands_hash : (old mid new : ShortText) (bytes : List ℕ) → old.closed ≡ false
    → HasEnded old.done old.word mid → new ≡ record mid { closed = true } → mid.begun ≡ true → Stands old bytes
    → Stands new (bytes ++ 35 ∷ [])
stands_hash old mid new bytes going ended is begun stands = grind (arith, common_steps, words_here-hash, before_byte, filled-last)

-- a byte of a word
pub stands_word : (old new : ShortText) (bytes : List ℕ) (byte : ℕ) → old.closed ≡ false → new.closed ≡ false → new.begun ≡ true
    → ((after : List ℕ) → SameLine (words_here (new.done ++ (new.word ++ after))) (words_here (old.done ++ (old.word ++ byte ∷ after))))
    → Stands old bytes → Stands new (bytes ++ byte ∷ [])
stands_word old new bytes byte going goes_on begun same stands = record {
  same = λ after.
      let text : text_before new after ≡ new.done ++ (new.word ++ after) = rw goes_on refl in
      subst (λ t. SameLine (words_here t) (words_here ((bytes ++ byte ∷ []) ++ after))) (sym text)
      (SameLine-trans (words_here (new.done ++ (new.word ++ after))) (words_here (old.done ++ (old.word ++ byte ∷ after))) _ (same after)
      (before_byte old bytes byte after going stands));
  begun = begun ∙ sym (filled-last bytes byte);
}

-- the end of a line that is closed, and of one that is not
pub finish_closed : (line : ShortText) (bytes : List ℕ) → line.closed ≡ true → Stands line bytes
    → SameLine (words_here line.done) (words_here bytes)
finish_closed line bytes closed stands =
    let text : text_before line [] ≡ line.done = rw closed refl in
    subst (λ t. SameLine (words_here line.done) (words_here t)) (append-nil bytes)
    (subst (λ t. SameLine (words_here t) (words_here (bytes ++ []))) text (stands.same []))

pub finish_word : (old new : ShortText) (bytes : List ℕ) → old.closed ≡ false → HasEnded old.done old.word new → Stands old bytes
    → SameLine (words_here new.done) (words_here bytes)
finish_word old new bytes going ended stands =
    let text : text_before old (10 ∷ []) ≡ old.done ++ (old.word ++ 10 ∷ []) = rw going refl in
    let here : words_here (old.done ++ (old.word ++ 10 ∷ [])) ≡ words_here new.done =
    ended.ended 10 [] refl ∙ ap (λ ws. words_here new.done ++ ws) (words_here-line_feed 10 [] refl) ∙ append-nil (words_here new.done) in
    subst (λ ws. SameLine ws (words_here bytes)) here
    (subst (λ ws. SameLine (words_here (old.done ++ (old.word ++ 10 ∷ []))) ws) (words_here-cut bytes [])
    (subst (λ t. SameLine (words_here t) (words_here (bytes ++ 10 ∷ []))) text (stands.same (10 ∷ []))))

-- ---- the line of its own

pub none_behind : (line : List ℕ) → list_all (λ b. not (is_line_feed b)) line ≡ true → behind line ≡ []
none_behind [] alone = behind-nil
none_behind (byte ∷ line) alone =
    let parts = and_parts (not (is_line_feed byte)) (list_all (λ b. not (is_line_feed b)) line) alone in
    behind-other byte line (not-true (is_line_feed byte) parts.0) ∙ none_behind line parts.1

pub no_lines : (n : ℕ) → lines_from n [] ≡ []
unfolding lines_from cut_lines
no_lines n = refl

no_mark : (done : List ℕ) → done ≡ 32 ∷ drop 1 done → unmarked done ≡ done
unfolding unmarked
no_mark [] is = cc
no_mark (byte ∷ done) is = let first : byte ≡ 32 = cc in subst (λ b. unmarked (b ∷ done) ≡ b ∷ done) (sym first) refl

pub own_line : (line : ShortText) (count : ℕ) → IsShortLine line count
    → full_lines line.done
    ≡ cond (is_filled (words_here line.done)) (record { number = 1; words = words_here line.done } ∷ []) []
own_line line count short = grind (arith, no_mark, lines_from_here, none_behind, no_lines)

pub filled_word : (word : List ℕ) → eqb (length word) 0 ≡ false → is_filled word ≡ true
filled_word [] some = cc
filled_word (byte ∷ word) some = refl

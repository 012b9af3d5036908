-- Lines of a file that are read one by one.
use Rattle.file_pieces.proofs.Common.{IsOneLine, ReadsLine, IsOn, StandsBehind, PassesByte, Reading, Reads, bytes_left, SameLine, ShortText, Stands, ◌≡◌, ◌≢◌, ℕ, ◌+◌, ◌<◌, ◌≤◌, Bool, true, false, not, cond, List, [], ◌∷◌, ◌++◌, length, Option, Some, None, IfSome, refl, sym, ap, subst, ◌∙◌, arith, append_assoc, append-nil, and_parts, and_from, not-true, not_from_false, ne_eqb, list_all-append, list_all, slice_get, words_here-nil, behind-line_feed, behind-other, cut_first, lines_from_here, Line, is_filled, cut_lines, unmarked, lines_from, is_line_feed, words_here, behind}
use Rattle.file_pieces.specs.declared.file_lines.Taken.{Taken}
use Rattle.file_pieces.proofs.ReadingLemmas.{at_told}
use Rattle.file_pieces.proofs.ShortLemmas.{words_here-cut, no_lines, none_behind}

-- a byte is put behind the line
pub puts_on : (first : ℕ) (all : List ℕ) (old new : ShortText) (number byte : ℕ) (left : List ℕ) → (byte ≡ 10 → ⊥)
    → ((bytes : List ℕ) → Stands old bytes → Stands new (bytes ++ byte ∷ []))
    → IsOn first all old number (byte ∷ left) → IsOn first all new number left
puts_on first all old new number byte left other puts on =
    let same : on.so_far ++ byte ∷ left ≡ (on.so_far ++ byte ∷ []) ++ left = sym (append_assoc on.so_far (byte ∷ []) left) in
    record {
      so_far = on.so_far ++ byte ∷ [];
      stands = puts on.so_far on.stands;
      alone = list_all-append (λ b. not (is_line_feed b)) on.so_far (byte ∷ [])
          ∙ and_from _ _ on.alone (and_from _ _ (not_from_false (is_line_feed byte) (no_feed byte other)) refl);
      lines = on.lines ∙ ap (lines_from number) same;
      count = on.count ∙ ap (λ t. number + length (cut_lines t)) same;
      later = on.later;
    }
  where
    no_feed : (b : ℕ) → (b ≡ 10 → ⊥) → is_line_feed b ≡ false
    no_feed b other = ne_eqb b 10 other

-- the line has ended, and has no words
pub ends_blank : (first : ℕ) (all : List ℕ) (old new : ShortText) (number next : ℕ) (short : List (List ℕ)) (left : List ℕ)
    → ((bytes rest : List ℕ) → Stands old bytes → IsOneLine bytes → ReadsLine number (bytes ++ 10 ∷ rest) None short next rest)
    → Stands new [] → IsOn first all old number (10 ∷ left) → IsOn first all new next left
ends_blank first all old new number next short left reads begins on = grind arith

-- a line with words was found
pub finds : (first : ℕ) (all : List ℕ) (old : ShortText) (number next n : ℕ) (short : List (List ℕ)) (left : List ℕ)
    → ((bytes rest : List ℕ) → Stands old bytes → IsOneLine bytes → ReadsLine number (bytes ++ 10 ∷ rest) (Some n) short next rest)
    → IsOn first all old number (10 ∷ left) → ReadsLine first all (Some n) short next left
finds first all old number next n short left reads on = grind arith

-- the text has ended
pub ends_text : (first : ℕ) (all : List ℕ) (old : ShortText) (number next : ℕ) (found : Option ℕ) (short : List (List ℕ)) (left : List ℕ)
    → left ≡ []
    → ((bytes : List ℕ) → Stands old bytes → IsOneLine bytes → ReadsLine number bytes found short next [])
    → IsOn first all old number left → ReadsLine first all found short next left
ends_text first all old number next found short left none reads on =
    let bytes : on.so_far ++ left ≡ on.so_far = ap (λ t. on.so_far ++ t) none ∙ append-nil on.so_far in
    let lines : lines_from first all ≡ lines_from number on.so_far = on.lines ∙ ap (lines_from number) bytes in
    subst (λ t. ReadsLine first all found short next t) (sym none)
    (by_found found lines (on.count ∙ ap (λ t. number + length (cut_lines t)) bytes) on.later (reads on.so_far on.stands on.alone))
  where
    by_found : (found : Option ℕ) → lines_from first all ≡ lines_from number on.so_far
        → first + length (cut_lines all) ≡ number + length (cut_lines on.so_far) → first ≤ number
        → ReadsLine number on.so_far found short next [] → ReadsLine first all found short next []
    by_found None lines count later r =
        record { lines = lines ∙ r.lines; count = count ∙ r.count; later = omega (arith, later, r.later) }
    by_found (Some n) lines count later r = record {
      lines = record { words = r.lines.words; first = lines ∙ r.lines.first; same = r.lines.same };
      count = count ∙ r.count;
      later = omega (arith, later, r.later);
    }

-- ---- a line at its end

behind_line : (bytes left : List ℕ) → IsOneLine bytes → behind (bytes ++ 10 ∷ left) ≡ left
behind_line [] left alone = behind-line_feed 10 left refl
behind_line (byte ∷ bytes) left alone =
    let parts = and_parts (not (is_line_feed byte)) (list_all (λ b. not (is_line_feed b)) bytes) alone in
    behind-other byte (bytes ++ 10 ∷ left) (not-true (is_line_feed byte) parts.0) ∙ behind_line bytes left parts.1

-- lines are counted
count_line : (bytes left : List ℕ) → IsOneLine bytes → length (cut_lines (bytes ++ 10 ∷ left)) ≡ 1 + length (cut_lines left)
count_line [] left alone =
    omega (arith, ap (λ (ls : List (List ℕ)). length ls) (cut_first 10 left), ap (λ t. length (cut_lines t)) (behind_line [] left alone))
count_line (byte ∷ bytes) left alone =
    omega (
      arith,
      ap (λ (ls : List (List ℕ)). length ls) (cut_first byte (bytes ++ 10 ∷ left)),
      ap (λ t. length (cut_lines t)) (behind_line (byte ∷ bytes) left alone),
    )

here : (number : ℕ) (bytes left : List ℕ) → IsOneLine bytes
    → lines_from number (bytes ++ 10 ∷ left)
    ≡ cond (is_filled (words_here bytes)) (record { number = number; words = words_here bytes } ∷ lines_from (number + 1) left)
    (lines_from (number + 1) left)
here number bytes left alone = grind (arith, lines_from_here, behind_line, words_here-cut)

same_filled : (a b : List (List ℕ)) → SameLine a b → is_filled a ≡ is_filled b
same_filled [] [] same = refl
same_filled [] (y ∷ b) same = absurd same
same_filled (x ∷ a) [] same = absurd same
same_filled (x ∷ a) (y ∷ b) same = refl

-- the line has words, or it has none
pub line_found : (number next : ℕ) (bytes left : List ℕ) (short : List (List ℕ)) → IsOneLine bytes → SameLine short (words_here bytes)
    → is_filled short ≡ true → next ≡ number + 1 → ReadsLine number (bytes ++ 10 ∷ left) (Some number) short next left
line_found number next bytes left short alone same filled is = grind (arith, same_filled, here, count_line)

pub line_blank : (number next : ℕ) (bytes left : List ℕ) (short other : List (List ℕ)) → IsOneLine bytes → SameLine short (words_here bytes)
    → is_filled short ≡ false → next ≡ number + 1 → ReadsLine number (bytes ++ 10 ∷ left) None other next left
line_blank number next bytes left short other alone same blank is = grind (arith, same_filled, here, count_line)

-- ---- the end of a text

last_line : (number : ℕ) (bytes : List ℕ) → IsOneLine bytes
    → lines_from number bytes ≡ cond (is_filled (words_here bytes)) (record { number = number; words = words_here bytes } ∷ []) []
last_line number bytes alone = grind (arith, lines_from_here, none_behind, no_lines)

-- a line without a line feed counts where it has a byte
count_last : (bytes : List ℕ) → IsOneLine bytes → length (cut_lines bytes) ≡ cond (is_filled bytes) 1 0
unfolding cut_lines
count_last [] alone = refl
count_last (byte ∷ bytes) alone = grind (arith, cut_first, none_behind)

count_end : (number next : ℕ) (bytes : List ℕ) (begun : Bool) → IsOneLine bytes → begun ≡ is_filled bytes → next ≡ number + cond begun 1 0
    → number + length (cut_lines bytes) ≡ next + length (cut_lines [])
unfolding cut_lines
count_end number next bytes begun alone some is = grind (arith, count_last)

-- a line with words has a byte
filled_bytes : (bytes : List ℕ) → is_filled (words_here bytes) ≡ true → is_filled bytes ≡ true
filled_bytes [] some = cc (some, words_here-nil)
filled_bytes (byte ∷ bytes) some = refl

pub text_found : (number next : ℕ) (bytes : List ℕ) (short : List (List ℕ)) (begun : Bool) → IsOneLine bytes
    → SameLine short (words_here bytes)
    → is_filled short ≡ true → begun ≡ is_filled bytes → next ≡ number + cond begun 1 0
    → ReadsLine number bytes (Some number) short next []
text_found number next bytes short begun alone same filled some is =
    let words : is_filled (words_here bytes) ≡ true = sym (same_filled short (words_here bytes) same) ∙ filled in
    record {
      lines = record {
        words = words_here bytes;
        first = last_line number bytes alone ∙ rw words (ap
            (λ (ls : List Line). record { number = number; words = words_here bytes } ∷ ls) (sym
            (no_lines next)));
        same = same;
      };
      count = count_end number next bytes begun alone some is;
      later = behind (some ∙ filled_bytes bytes words) is;
    }
  where
    behind : begun ≡ true → next ≡ number + cond begun 1 0 → number < next
    behind e f = omega (arith, ap (λ b. let n : ℕ = cond b 1 0 in n) e, f)

pub text_blank : (number next : ℕ) (bytes : List ℕ) (short : List (List ℕ)) (begun : Bool) → IsOneLine bytes
    → SameLine short (words_here bytes)
    → is_filled short ≡ false → begun ≡ is_filled bytes → next ≡ number + cond begun 1 0 → ReadsLine number bytes None short next []
text_blank number next bytes short begun alone same blank some is =
    let words : is_filled (words_here bytes) ≡ false = sym (same_filled short (words_here bytes) same) ∙ blank in
    record {
      lines = last_line number bytes alone ∙ rw words (sym (no_lines next));
      count = count_end number next bytes begun alone some is;
      later = omega (arith, is);
    }

-- ---- one byte after another

-- the file is read on, from one state to the next and the next
pub reads_on : (file now : Option (List ℕ)) (start mid next : Reading) → now ≡ file
    → IfSome file (λ f. Reads start f → Reads mid f) → IfSome now (λ f. Reads mid f → Reads next f)
    → IfSome file (λ f. Reads start f → Reads next f)
reads_on None now start mid next same first second = tt
reads_on (Some f) now start mid next same first second = grind arith

-- what was read of lines, as far as a state
abbrev pub LinesTo : (start now : Reading) (old line : ShortText) (first_number number : ℕ) → List ℕ → Type 0
LinesTo start now old line first_number number file = Reads start file → (first : ℕ) (all : List ℕ)
    → IsOn first all old first_number (bytes_left start file) → IsOn first all line number (bytes_left now file)

-- a byte more
pub takes_on : (file now : Option (List ℕ)) (start mid next : Reading) (old line new : ShortText) (a b c : ℕ) (taken as_told : Taken)
    → now ≡ file → as_told ≡ taken
    → IfSome file (λ f. Reads start f → Reads mid f) → IfSome file (LinesTo start mid old line a b)
    → IfSome now (λ f. Reads mid f → (first : ℕ) (all : List ℕ) → IsOn first all line b (bytes_left mid f)
    → StandsBehind as_told first all new c (bytes_left next f))
    → IfSome file (λ f. Reads start f → (first : ℕ) (all : List ℕ) → IsOn first all old a (bytes_left start f)
    → StandsBehind taken first all new c (bytes_left next f))
takes_on None now start mid next old line new a b c taken as_told same is reads so_far step = tt
takes_on (Some f) now start mid next old line new a b c taken as_told same is reads so_far step = grind (arith, bytes_left)

-- ---- texts with no mark, and one with it

pub other_first : (bytes : List ℕ) → slice_get bytes 0 ≢ Some 239 → unmarked bytes ≡ bytes
unfolding unmarked
other_first [] other = refl
other_first (byte ∷ bytes) other = rw (ne_eqb byte 239 (λ same. other (ap Some same))) refl

pub other_second : (bytes : List ℕ) → slice_get bytes 0 ≢ Some 187 → unmarked (239 ∷ bytes) ≡ 239 ∷ bytes
unfolding unmarked
other_second [] other = refl
other_second (byte ∷ bytes) other = rw (ne_eqb byte 187 (λ same. other (ap Some same))) refl

pub other_third : (bytes : List ℕ) → slice_get bytes 0 ≢ Some 191 → unmarked (239 ∷ 187 ∷ bytes) ≡ 239 ∷ 187 ∷ bytes
unfolding unmarked
other_third [] other = refl
other_third (byte ∷ bytes) other = rw (ne_eqb byte 191 (λ same. other (ap Some same))) refl

pub marked : (bytes : List ℕ) → unmarked (239 ∷ 187 ∷ 191 ∷ bytes) ≡ bytes
unfolding unmarked
marked bytes = refl

-- ---- the byte-order mark

-- where a part was looked at, and there is no mark
pub no_mark_on : (file seen left : List ℕ) (line : ShortText) → unmarked file ≡ file → file ≡ seen ++ left → Stands line seen
    → IsOneLine seen → IsOn 1 (unmarked file) line 1 left
no_mark_on file seen left line none parts stands alone = grind arith

-- the first, the second or the third byte is another
pub no_mark_first : (file left : List ℕ) (line : ShortText) → PassesByte false 239 file left → Stands line []
    → IsOn 1 (unmarked file) line 1 left
no_mark_first file left line passes stands = no_mark_on file [] left line (other_first file passes.1) (sym passes.0) stands refl

pub no_mark_second : (file left last : List ℕ) (line : ShortText) → file ≡ 239 ∷ left → PassesByte false 187 left last
    → Stands line (239 ∷ []) → IsOn 1 (unmarked file) line 1 last
no_mark_second file left last line parts passes stands = grind (arith, no_mark_on, other_second)

pub no_mark_third : (file left more last : List ℕ) (line : ShortText) → file ≡ 239 ∷ left → left ≡ 187 ∷ more
    → PassesByte false 191 more last
    → Stands line (239 ∷ 187 ∷ []) → IsOn 1 (unmarked file) line 1 last
no_mark_third file left more last line parts next passes stands = grind (arith, no_mark_on, other_third)

-- or none of them is
pub mark_passed : (file left more last : List ℕ) (line : ShortText) → file ≡ 239 ∷ left → left ≡ 187 ∷ more → more ≡ 191 ∷ last
    → Stands line [] → IsOn 1 (unmarked file) line 1 last
mark_passed file left more last line first second third stands = grind (arith, marked)

-- what a call says of the next byte, where the file is told
pub passes_told : (file : Option (List ℕ)) (old new : Reading) (passed as_told : Bool) (byte : ℕ) (f : List ℕ) → file ≡ Some f
    → as_told ≡ passed → IfSome file (λ g. Reads old g → Reads new g)
    → IfSome file (λ g. Reads old g → PassesByte as_told byte (bytes_left old g) (bytes_left new g)) → Reads old f
    → Reads new f × PassesByte passed byte (bytes_left old f) (bytes_left new f)
passes_told file old new passed as_told byte f is same reads passes now = grind (arith, at_told, bytes_left)

-- what the line stands for then
pub put_told : (passed as_told : Bool) (old new : ShortText) (byte : ℕ) (bytes : List ℕ) → as_told ≡ passed
    → ((so_far : List ℕ) → Stands old so_far → Stands new (cond as_told (so_far ++ byte ∷ []) so_far)) → Stands old bytes
    → Stands new (cond passed (bytes ++ byte ∷ []) bytes)
put_told passed as_told old new byte bytes same puts stands = grind arith

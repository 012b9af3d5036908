-- A short text has few lines, each with few words.
use Rattle.walk_files.proofs.Common.{◌≡◌, inl, inr, ℕ, zero, suc, ◌==◌, ◌+◌, ◌<◌, ◌≤◌, ◌^◌, Bool, true, false, List, [], ◌∷◌, length, drop, refl, sym, subst, arith, cases_Bool, All-head, All-tail, All-cons, All-nil, enumerate_from, slice_split, onto_first, before_first, All, filter, cond, is_some, before_first-yes, before_first-no, Line, is_filled, is_blank, unmarked, uncommented, cut_lines, words, lines_from, full_lines, Unread, lines_left, at_line, behind_head, answer_alone, AreFew}
use Rattle.std.proofs.lemmas.List.Splits.{slice_split-cons_yes, slice_split-cons_no}
use Rattle.std.specs.Prelude.{map}
use Rattle.text_scan.proofs.StepLemmas.{few_lines}

short-more : (n m : ℕ) (pieces : List (List ℕ)) → n ≤ m → All (λ piece. length piece ≤ n) pieces → All (λ piece. length piece ≤ m) pieces
short-more n m [] le short = All-nil (λ piece. length piece ≤ m)
short-more n m (piece ∷ pieces) le short =
    let head : length piece ≤ n = All-head (λ piece. length piece ≤ n) piece pieces short in
    All-cons (λ piece. length piece ≤ m) piece pieces (omega (arith, head))
    (short-more n m pieces le (All-tail (λ piece. length piece ≤ n) piece pieces short))

onto_first-short : (n byte : ℕ) (pieces : List (List ℕ)) → All (λ piece. length piece ≤ n) pieces
    → All (λ piece. length piece ≤ n + 1) (onto_first byte pieces)
onto_first-short n byte [] short =
    All-cons (λ piece. length piece ≤ n + 1) (byte ∷ []) [] (omega arith) (All-nil (λ piece. length piece ≤ n + 1))
onto_first-short n byte (piece ∷ pieces) short =
    let head : length piece ≤ n = All-head (λ piece. length piece ≤ n) piece pieces short in
    All-cons (λ piece. length piece ≤ n + 1) (byte ∷ piece) pieces (omega (arith, head))
    (short-more n (n + 1) pieces (omega arith) (All-tail (λ piece. length piece ≤ n) piece pieces short))

cut-short : (text : List ℕ) → All (λ piece. length piece ≤ length text) (cut_lines text)
unfolding cut_lines
cut-short [] = All-nil (λ (piece : List ℕ). length piece ≤ 0)
cut-short (byte ∷ text) = by_test (byte == 10) (cut_lines text) (cut-short text)
  where
    by_test : (b : Bool) (pieces : List (List ℕ)) → All (λ piece. length piece ≤ length text) pieces
        → All (λ piece. length piece ≤ length (byte ∷ text)) (cond b ([] ∷ pieces) (onto_first byte pieces))
    by_test true pieces short =
        All-cons (λ piece. length piece ≤ length (byte ∷ text)) [] pieces (omega arith)
        (short-more (length text) (length (byte ∷ text)) pieces (omega arith) short)
    by_test false pieces short =
        subst (λ n. All (λ piece. length piece ≤ n) (onto_first byte pieces)) (omega arith)
        (onto_first-short (length text) byte pieces short)

-- ---- words

filled-parts : (test : ℕ → Bool) (line : List ℕ) → length (filter is_filled (slice_split test line)) ≤ length line
filled-parts test [] = omega arith
filled-parts test (byte ∷ line) =
    let so_far = filled-parts test line in
    elim (cases_Bool (test byte)) [
      | inl here ↦ rw (slice_split-cons_yes test byte line here) (omega (arith, so_far))
      | inr off ↦ rw (slice_split-cons_no test byte line off) (on_first byte (slice_split test line) (length line) so_far)
    ]
  where
    on_first : (byte : ℕ) (parts : List (List ℕ)) (n : ℕ) → length (filter is_filled parts) ≤ n
        → length (filter is_filled (onto_first byte parts)) ≤ suc n
    on_first byte [] n few = omega arith
    on_first byte ([] ∷ parts) n few = omega (arith, few)
    on_first byte ((x ∷ part) ∷ parts) n few = omega (arith, few)

before_first-short : (test : ℕ → Bool) (line : List ℕ) → length (before_first test line) ≤ length line
before_first-short test [] = omega arith
before_first-short test (byte ∷ line) =
    let so_far = before_first-short test line in
    elim (cases_Bool (test byte)) [
      | inl here ↦ rw (before_first-yes test byte line here) (omega arith)
      | inr off ↦ rw (before_first-no test byte line off) (omega (arith, so_far))
    ]

few_words : (line : List ℕ) → length (words line) ≤ length line
unfolding words
few_words line =
    let parts = filled-parts is_blank (uncommented line) in
    let shorter = before_first-short (λ byte. byte == 35) line in
    omega (arith, parts, shorter)

-- ---- lines

-- at most n lines, each with at most m words
record AreAtMost (n m : ℕ) (lines : List Line) : Type 0 where
  count : length lines ≤ n
  words : All (λ line. length line.words ≤ m) lines

numbered-few : (n m : ℕ) (pieces : List (List ℕ)) → All (λ piece. length piece ≤ m) pieces
    → AreAtMost (length pieces) m (filter (λ line. is_filled line.words)
    (map (λ p. record { number = p.0; words = words p.1 }) (enumerate_from n pieces)))
numbered-few n m [] short = record { count = omega arith; words = All-nil (λ (line : Line). length line.words ≤ m) }
numbered-few n m (piece ∷ pieces) short =
    let head : length piece ≤ m = All-head (λ piece. length piece ≤ m) piece pieces short in
    let own = few_words piece in
    by_test (is_filled (words piece)) (record { number = n; words = words piece }) _ (omega (arith, head, own))
    (numbered-few (n + 1) m pieces (All-tail (λ piece. length piece ≤ m) piece pieces short))
  where
    by_test : (b : Bool) (line : Line) (lines : List Line) → length line.words ≤ m → AreAtMost (length pieces) m lines
        → AreAtMost (length (piece ∷ pieces)) m (cond b (line ∷ lines) lines)
    by_test true line lines own few = record {
      count = omega (arith, few.count);
      words = All-cons (λ (line : Line). length line.words ≤ m) line lines own few.words;
    }
    by_test false line lines own few = record { count = omega (arith, few.count); words = few.words }

unmarked-short : (text : List ℕ) → length (unmarked text) ≤ length text
unfolding unmarked
unmarked-short text = grind arith

lines_from-few : (n : ℕ) (text : List ℕ) → AreAtMost (length text) (length text) (lines_from n text)
unfolding lines_from
lines_from-few n text =
    let few : AreAtMost (length (cut_lines text)) (length text) (lines_from n text) =
    numbered-few n (length text) (cut_lines text) (cut-short text) in
    record { count = omega (arith, few.count, few_lines text); words = few.words }

below : (m n : ℕ) (lines : List Line) → m < n → All (λ line. length line.words ≤ m) lines → All (λ line. length line.words < n) lines
below m n [] less all = All-nil (λ (line : Line). length line.words < n)
below m n (line ∷ lines) less all =
    let head : length line.words ≤ m = All-head (λ (line : Line). length line.words ≤ m) line lines all in
    All-cons (λ (line : Line). length line.words < n) line lines (omega (arith, head, less))
    (below m n lines less (All-tail (λ (line : Line). length line.words ≤ m) line lines all))

pub full_lines-few : (text : List ℕ) → length text < 2 ^ 32 → AreFew (full_lines text)
full_lines-few text short =
    let few = lines_from-few 1 (unmarked text) in
    let bytes = unmarked-short text in
    record {
      count = omega (arith, few.count, bytes, short);
      words = below (length (unmarked text)) (2 ^ 32) (full_lines text) (omega (arith, bytes, short)) few.words;
    }

-- ---- what is left of few lines

pub few-tail : (line : Line) (lines : List Line) → AreFew (line ∷ lines) → AreFew lines
few-tail line lines few = record {
  count = omega (arith, few.count);
  words = All-tail (λ (line : Line). length line.words < 2 ^ 32) line lines few.words;
}

pub few-drop : (n : ℕ) (lines : List Line) → AreFew lines → AreFew (drop n lines)
few-drop zero lines few = few
few-drop (suc n) [] few = few
few-drop (suc n) (line ∷ lines) few = few-drop n lines (few-tail line lines few)

pub few-behind_head : (lines : List Line) → AreFew lines → AreFew (behind_head lines)
few-behind_head [] few = few
few-behind_head (line ∷ lines) few = by_test (is_some (answer_alone line.words)) (few-tail line lines few)
  where
    by_test : (b : Bool) → AreFew lines → AreFew (cond b (drop 1 lines) lines)
    by_test true rest = few-drop 1 lines rest
    by_test false rest = rest

-- ---- the first of few lines

-- a line that was found
pub found_line : (old new : Unread) → is_filled (lines_left old) ≡ true → new ≡ at_line old (lines_left old)
    → lines_left old ≡ record { number = new.line; words = new.words } ∷ new.lines
found_line old new filled is = subst (λ (u : Unread). lines_left old ≡ record { number = u.line; words = u.words } ∷ u.lines) (sym is)
    (at (lines_left old) filled)
  where
    at : (lines : List Line) → is_filled lines ≡ true
        → lines ≡ record { number = (at_line old lines).line; words = (at_line old lines).words } ∷ (at_line old lines).lines
    at [] filled = cc
    at (line ∷ lines) filled = refl

-- its words are few
pub few-found : (old new : Unread) → is_filled (lines_left old) ≡ true → new ≡ at_line old (lines_left old)
    → All (λ line. length line.words < 2 ^ 32) (lines_left old)
    → length new.words < 2 ^ 32
few-found old new filled is few =
    All-head (λ (line : Line). length line.words < 2 ^ 32) (record { number = new.line; words = new.words }) new.lines
    (subst (λ lines. All (λ (line : Line). length line.words < 2 ^ 32) lines) (found_line old new filled is) few)

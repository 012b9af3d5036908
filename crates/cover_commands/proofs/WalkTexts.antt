-- The line of a walk, put vertex after vertex, and the lines of two walks, read back.
use Rattle.cover_commands.proofs.Common.{walk_line, ◌≡◌, ℕ, suc, ◌+◌, ◌-◌, ◌<◌, ◌≤◌, ◌^◌, Bool, true, false, List, [], ◌∷◌, ◌++◌, length, map, get_or, drop, refl, ap, sym, ◌∙◌, subst, arith, append_assoc, and_parts, lt-leb, le-ltb, Some, Result, Ok, All, slice_get, flat_map, decimal, codes, nat_le, nat_lt, ◌==◌, if◌then◌else◌, line_of-numbers, spaced_number, FaceList, IsFaceList, IsWalk, walks_behind, has_header, in_version, walk_text_of_lines, walks_in, walks_of}
use Rattle.std.proofs.lemmas.List.{append-nil, length-map}
use Rattle.std.proofs.lemmas.List.Elements.{All-nil, All-cons, All-head}
use Rattle.std.proofs.lemmas.Option.{slice_get-get_or}
use Rattle.std.specs.List.{list_all}
use Rattle.surf_model.proofs.EdgeLemmas.{used_below}
use Rattle.text_scan.proofs.WrittenLemmas.{IsLine, numbered, lines_from-written, IsDecimal, decimal_is, decimals-writable, numbers-read}
use Rattle.text_scan.specs.Lines.{Line, is_filled, unmarked, lines_from, full_lines}
use Rattle.text_scan.specs.Numbers.{is_digit}
use Rattle.text_scan.specs.Plain.{line_of}
use Rattle.text_scan.specs.Unread.{are_words}
use Rattle.walk_files.specs.NumberTexts.{walk_of, line_of_numbers, plain_walks_of}
use Rattle.walk_files.specs.declared.fault.WalkFault.{WalkFault}
use Rattle.walk_files.specs.declared.limits.TheConstants.{MOST_LINES, MOST_WALK_VERTICES}

pub line_put : (walk : List ℕ) (start : ℕ) → 0 < length walk → start ≡ get_or walk 0 0
    → decimal start ++ (flat_map spaced_number (drop 1 walk) ++ 10 ∷ []) ≡ walk_line walk
line_put [] start l is = absurd (omega (arith, l))
line_put (u ∷ rest) start l is =
    ap (λ (n : ℕ). decimal n ++ (flat_map spaced_number rest ++ 10 ∷ [])) is ∙ line_of-numbers (decimal u) rest

-- the vertices behind the first
pub behind_first : (walk : List ℕ) (place vertex : ℕ) → place < length walk - 1 → vertex ≡ get_or walk (place + 1) 0
    → slice_get (drop 1 walk) place ≡ Some vertex
behind_first [] place vertex l is = absurd (omega (arith, l))
behind_first (u ∷ rest) place vertex l is =
    let more : place + 1 ≡ suc place = omega arith in
    slice_get-get_or rest place 0 (omega (arith, l)) ∙ ap (λ (k : ℕ). Some (get_or (u ∷ rest) k 0)) (sym more) ∙ ap Some (sym is)

pub behind_length : (walk : List ℕ) → length (drop 1 walk) ≡ length walk - 1
behind_length [] = refl
behind_length (u ∷ rest) = omega arith

-- ---- what was written is read

-- digits are neither the mark that a text may begin with, nor the header of version 2
digits_unmarked : (digits rest : List ℕ) → is_filled digits ≡ true → list_all is_digit digits ≡ true
    → unmarked (digits ++ rest) ≡ digits ++ rest
unfolding unmarked
digits_unmarked [] rest filled all = cc
digits_unmarked (d ∷ ds) rest filled all =
    let digit : is_digit d ≡ true = (and_parts (is_digit d) (list_all is_digit ds) all).0 in
    let other : (d == 239) ≡ false = no d digit in
    rw other refl
  where
    no : (d : ℕ) → is_digit d ≡ true → (d == 239) ≡ false
    no d digit = grind (arith, digit)

digits_no_header : (digits : List ℕ) (others : List (List ℕ)) → is_filled digits ≡ true → list_all is_digit digits ≡ true
    → are_words (digits ∷ others) (codes "WALKS" ∷ codes "2" ∷ []) ≡ false
digits_no_header [] others filled all = cc
digits_no_header (d ∷ ds) others filled all =
    let digit : is_digit d ≡ true = (and_parts (is_digit d) (list_all is_digit ds) all).0 in
    let other : (d == 87) ≡ false = no d digit in
    rw other refl
  where
    no : (d : ℕ) → is_digit d ≡ true → (d == 87) ≡ false
    no d digit = grind (arith, digit)

-- a walk that a text of version 1 may have
record IsWritten (walk : List ℕ) : Type 0 where
  starts : 0 < length walk
  short : length walk ≤ MOST_WALK_VERTICES
  small : All (λ n. n < 2 ^ 32) walk

filled_line : (walk : List ℕ) → IsWritten walk → IsLine (map decimal walk)
filled_line [] h = absurd (omega (arith, h.starts))
filled_line (u ∷ rest) h = record { filled = refl; writable = decimals-writable (u ∷ rest) h.small }

read_line : (walk : List ℕ) (before number : ℕ) → before < MOST_LINES → IsWritten walk
    → line_of_numbers walk_of MOST_WALK_VERTICES before (record { number = number; words = map decimal walk }) ≡ Ok walk
read_line walk before number few h =
    let early : nat_le MOST_LINES before ≡ false = lt-leb MOST_LINES before few in
    let short : nat_lt MOST_WALK_VERTICES (length (map decimal walk)) ≡ false =
    le-ltb MOST_WALK_VERTICES (length (map decimal walk)) (omega (arith, h.short, length-map walk decimal)) in
    rw (early, short, numbers-read walk h.small) refl

first_digits : (walk : List ℕ) (rest : List ℕ) (others : List (List (List ℕ))) → IsWritten walk
    → (unmarked (walk_line walk ++ rest) ≡ walk_line walk ++ rest)
    × (has_header (numbered 1 (map decimal walk ∷ others)) ≡ false)
first_digits [] rest others h = absurd (omega (arith, h.starts))
first_digits (u ∷ walk) rest others h =
    let fits : u < 2 ^ 32 = All-head (λ n. n < 2 ^ 32) u walk h.small in
    let d : IsDecimal u (decimal u) = decimal_is u (omega (arith, fits)) in
    let after : List ℕ = flat_map spaced_number walk ++ 10 ∷ [] in
    let whole : decimal u ++ (after ++ rest) ≡ walk_line (u ∷ walk) ++ rest =
    sym (append_assoc (decimal u) after rest) ∙ ap (λ (t : List ℕ). t ++ rest) (line_of-numbers (decimal u) walk) in (
      subst (λ (t : List ℕ). unmarked t ≡ t) whole (digits_unmarked (decimal u) (after ++ rest) d.filled d.all),
      digits_no_header (decimal u) (map decimal walk) d.filled d.all,
    )

written_read : (one two : List ℕ) → IsWritten one → IsWritten two
    → walks_of (walk_line one ++ walk_line two) ≡ Ok (one ∷ two ∷ [])
written_read one two h k =
    let lines : List (List (List ℕ)) = map decimal one ∷ map decimal two ∷ [] in
    let text : List ℕ = walk_line one ++ walk_line two in
    let first = first_digits one (walk_line two) (map decimal two ∷ []) h in
    let all : All IsLine lines =
    All-cons IsLine (map decimal one) (map decimal two ∷ []) (filled_line one h)
    (All-cons IsLine (map decimal two) [] (filled_line two k) (All-nil IsLine)) in
    let whole : flat_map line_of lines ≡ text = ap (λ (t : List ℕ). walk_line one ++ t) (append-nil (walk_line two)) in
    let cut : full_lines text ≡ numbered 1 lines =
    ap (lines_from 1) (first.0 ∙ sym whole) ∙ lines_from-written 1 lines all in
    ap (λ (ls : List Line). walks_in (walk_text_of_lines ls)) cut
    ∙ ap (λ (b : Bool). walks_in (if b then in_version 2 (walks_behind [] (drop 1 (numbered 1 lines)))
    else in_version 1 (plain_walks_of (numbered 1 lines)))) first.1
    ∙ ap (λ (r : Result (List (List ℕ)) WalkFault). walks_in (in_version 1 r)) (plain one two h k)
  where
    plain : (one two : List ℕ) → IsWritten one → IsWritten two
        → plain_walks_of (numbered 1 (map decimal one ∷ map decimal two ∷ [])) ≡ Ok (one ∷ two ∷ [])
    plain one two h k = rw (read_line one 0 1 (omega arith) h, read_line two 1 2 (omega arith) k) refl

-- lifts, which are walks of a mesh of few vertices
pub lifts_read : (cover : FaceList) (one two : List ℕ) → IsFaceList cover → cover.count < 2 ^ 32 → IsWalk cover one → IsWalk cover two
    → length one ≤ MOST_WALK_VERTICES → length two ≤ MOST_WALK_VERTICES
    → walks_of (walk_line one ++ walk_line two) ≡ Ok (one ∷ two ∷ [])
lifts_read cover one two valid few w v short_one short_two =
    written_read one two (record { starts = w.starts; short = short_one; small = small one w })
    (record { starts = v.starts; short = short_two; small = small two v })
  where
    small : (walk : List ℕ) → IsWalk cover walk → All (λ n. n < 2 ^ 32) walk
    small walk w k d l = omega (arith, few, used_below cover (get_or walk k d) valid (w.used k d l))

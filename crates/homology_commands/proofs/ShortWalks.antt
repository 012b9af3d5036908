-- How long the walks of a file are.
use Rattle.homology_commands.proofs.Common.{Passes, meant, pass_unless, ◌>>=◌, pair_in, ◌≡◌, inl, inr, ℕ, ◌+◌, ◌≤◌, Bool, true, false, List, [], ◌∷◌, ◌++◌, length, get_or, drop, refl, ap, sym, ◌∙◌, subst, arith, ltb-false, All-cons, All-nil, All-push, enumerate_from, sum_by, All, nat_le, nat_lt, ◌||◌, if◌then◌else◌, Option, Some, None, Result, Ok, Err, Files, FaceList, walk_at, darts}
use Rattle.commands.specs.Refusals.{numbers_line, pair_line}
use Rattle.std.specs.Option.{ok_or}
use Rattle.text_scan.specs.Each.{each_ok, each_some, ok_first, some_first}
use Rattle.text_scan.specs.Lines.{Line, full_lines}
use Rattle.text_scan.specs.Numbers.{number_of}
use Rattle.walk_files.specs.NumberTexts.{line_of_numbers, numbers_on, plain_walks_of, walk_of}
use Rattle.walk_files.specs.Pairs.{pair_fault}
use Rattle.walk_files.specs.WalkTexts.{has_header, in_version, read_tokens, token_of, walk_of_line, walks_behind, walks_in, walks_of, within_limits, written_out}
use Rattle.walk_files.specs.declared.fault.WalkFault.{WalkFault}
use Rattle.walk_files.specs.declared.fault.WalkFault.TheVariants.{BadNumber, TooLong, TooMany}
use Rattle.walk_files.specs.declared.limits.TheConstants.{MOST_DARTS, MOST_LINES, MOST_WALK_DARTS, MOST_WALK_VERTICES}
use Rattle.walk_files.specs.declared.pair.PairFault.{PairFault}
use Rattle.commands.specs.declared.refusal.Input.TheVariants as inputs

abbrev IsShort : List ℕ → Type 0
IsShort walk = length walk ≤ MOST_WALK_VERTICES

-- as many vertices as words
as_long : (words : List (List ℕ)) (walk : List ℕ) → each_some number_of words ≡ Some walk → length walk ≡ length words
as_long [] walk e = let same : walk ≡ [] = cc in ap (length {A = ℕ}) same
as_long (word ∷ words) walk e = by_first (number_of word) (each_some number_of words) (λ rest f. as_long words rest f) e
  where
    by_first : (o : Option ℕ) (os : Option (List ℕ)) → ((rest : List ℕ) → os ≡ Some rest → length rest ≡ length words)
        → some_first o os ≡ Some walk → length walk ≡ length (word ∷ words)
    by_first None os more h = cc
    by_first (Some v) None more h = cc
    by_first (Some v) (Some rest) more h =
        let same : walk ≡ v ∷ rest = cc in
        ap (length {A = ℕ}) same ∙ omega (arith, more rest refl)

short_line : (before : ℕ) (line : Line) (walk : List ℕ) → line_of_numbers walk_of MOST_WALK_VERTICES before line ≡ Ok walk → IsShort walk
short_line before line walk e = by_many (nat_le MOST_LINES before) e
  where
    by_meaning : (meant : Option (List ℕ)) → walk_of line.words ≡ meant → length line.words ≤ MOST_WALK_VERTICES
        → ok_or meant (BadNumber line.number) ≡ Ok walk → IsShort walk
    by_meaning None f few h = cc
    by_meaning (Some vertices) f few h =
        let same : vertices ≡ walk = cc in
        subst IsShort same (omega (arith, few, as_long line.words vertices f))

    by_long : (b : Bool) → nat_lt MOST_WALK_VERTICES (length line.words) ≡ b
        → (if b then Err (TooLong line.number) else ok_or (walk_of line.words) (BadNumber line.number)) ≡ Ok walk → IsShort walk
    by_long true f h = cc
    by_long false f h = by_meaning (walk_of line.words) refl (ltb-false _ _ f) h

    by_many : (b : Bool) → (if b then Err (TooMany line.number) else numbers_on walk_of MOST_WALK_VERTICES line.number line.words) ≡ Ok walk
        → IsShort walk
    by_many true h = cc
    by_many false h = by_long (nat_lt MOST_WALK_VERTICES (length line.words)) refl h

short_lines : (lines : List (ℕ × Line)) (walks : List (List ℕ))
    → each_ok (λ p. line_of_numbers walk_of MOST_WALK_VERTICES p.0 p.1) lines ≡ Ok walks → All IsShort walks
short_lines [] walks e = let same : [] ≡ walks = cc in subst (All IsShort) same (All-nil IsShort)
short_lines (p ∷ lines) walks e =
    by_first (line_of_numbers walk_of MOST_WALK_VERTICES p.0 p.1)
    (each_ok (λ p. line_of_numbers walk_of MOST_WALK_VERTICES p.0 p.1) lines) (λ walk f. short_line p.0 p.1 walk f)
    (λ rest f. short_lines lines rest f) e
  where
    by_first : (r : Result (List ℕ) WalkFault) (rs : Result (List (List ℕ)) WalkFault) → ((walk : List ℕ) → r ≡ Ok walk → IsShort walk)
        → ((rest : List (List ℕ)) → rs ≡ Ok rest → All IsShort rest) → ok_first r rs ≡ Ok walks → All IsShort walks
    by_first (Err fault) rs one more h = cc
    by_first (Ok walk) (Err fault) one more h = cc
    by_first (Ok walk) (Ok rest) one more h =
        let same : walk ∷ rest ≡ walks = cc in
        subst (All IsShort) same (All-cons IsShort walk rest (one walk refl) (more rest refl))

-- ---- a text of version 2

within_short : (line total : ℕ) (read : Result (List ℕ) WalkFault) (walk : List ℕ) → within_limits line total read ≡ Ok walk → IsShort walk
within_short line total (Err fault) walk e = cc
within_short line total (Ok read) walk e = by_long (nat_lt MOST_WALK_DARTS (darts read)) refl e
  where
    by_all : (b : Bool) → nat_lt MOST_WALK_DARTS (darts read) ≡ false → (if b then Err (TooLong line) else Ok read) ≡ Ok walk → IsShort walk
    by_all true f h = cc
    by_all false f h =
        let same : read ≡ walk = cc in
        subst IsShort same (omega (arith, ltb-false MOST_WALK_DARTS (darts read) f))

    by_long : (b : Bool) → nat_lt MOST_WALK_DARTS (darts read) ≡ b
        → (if b || nat_lt MOST_DARTS (total + darts read) then Err (TooLong line) else Ok read) ≡ Ok walk → IsShort walk
    by_long true f h = cc
    by_long false f h = by_all (nat_lt MOST_DARTS (total + darts read)) f h

short_of_line : (before total : ℕ) (line : Line) (walk : List ℕ) → walk_of_line before total line ≡ Ok walk → IsShort walk
short_of_line before total line walk e = by_many (nat_le MOST_LINES before) e
  where
    read : Result (List ℕ) WalkFault
    read = read_tokens written_out line.number (each_some token_of line.words)

    by_many : (b : Bool) → (if b then Err (TooMany line.number) else within_limits line.number total read) ≡ Ok walk → IsShort walk
    by_many true h = cc
    by_many false h = within_short line.number total read walk h

short_behind : (lines : List Line) (before walks : List (List ℕ)) → All IsShort before → walks_behind before lines ≡ Ok walks
    → All IsShort walks
short_behind [] before walks short e = let same : before ≡ walks = cc in subst (All IsShort) same short
short_behind (line ∷ lines) before walks short e =
    by_line (walk_of_line (length before) (sum_by darts before) line) refl
    (λ walk short h. short_behind lines (before ++ walk ∷ []) walks short h)
  where
    by_line : (r : Result (List ℕ) WalkFault) → walk_of_line (length before) (sum_by darts before) line ≡ r
        → ((walk : List ℕ) → All IsShort (before ++ walk ∷ []) → walks_behind (before ++ walk ∷ []) lines ≡ Ok walks → All IsShort walks)
        → All IsShort walks
    by_line (Err fault) f more = let h = rw f at e in cc
    by_line (Ok walk) f more =
        more walk (All-push IsShort before walk short (short_of_line (length before) (sum_by darts before) line walk f)) (rw f at e)

-- ---- a text of either version

versioned : (version : ℕ) (read : Result (List (List ℕ)) WalkFault) (walks : List (List ℕ))
    → ((all : List (List ℕ)) → read ≡ Ok all → All IsShort all) → walks_in (in_version version read) ≡ Ok walks → All IsShort walks
versioned version (Err fault) walks short h = cc
versioned version (Ok all) walks short h = let same : all ≡ walks = cc in subst (All IsShort) same (short all refl)

short_text : (text : List ℕ) (walks : List (List ℕ)) → walks_of text ≡ Ok walks → All IsShort walks
short_text text walks e = by_header (has_header lines) e
  where
    lines : List Line
    lines = full_lines text

    by_header : (b : Bool)
        → walks_in (if b then in_version 2 (walks_behind [] (drop 1 lines)) else in_version 1 (plain_walks_of lines)) ≡ Ok walks
        → All IsShort walks
    by_header true h =
        versioned 2 (walks_behind [] (drop 1 lines)) walks
        (λ all f. short_behind (drop 1 lines) [] all (All-nil IsShort) f) h
    by_header false h = versioned 1 (plain_walks_of lines) walks (λ all f. short_lines (enumerate_from 0 lines) all f) h

-- the walks that a file passes
short_among : (mesh : FaceList) (read : Result (List (List ℕ)) WalkFault) (walks : List (List ℕ))
    → ((all : List (List ℕ)) → read ≡ Ok all → All IsShort all)
    → Passes (meant (numbers_line inputs.Walks) read >>= (λ all. pass_unless pair_line (pair_fault mesh all) all)) walks
    → All IsShort walks
short_among mesh (Err fault) walks short (inl p) = let e = p.2 in cc
short_among mesh (Err fault) walks short (inr p) = let e = p.1 in cc
short_among mesh (Ok all) walks short (inl p) = let e = p.2 in cc
short_among mesh (Ok all) walks short (inr p) =
    let read : p.0 ≡ all = let e = p.1 in cc in
    let same : p.0 ≡ walks = passed p.0 (pair_fault mesh p.0) p.2 in
    subst (All IsShort) same (subst (All IsShort) (sym read) (short all refl))
  where
    passed : (thing : List (List ℕ)) (fault : Option PairFault) → Passes (pass_unless pair_line fault thing) walks → thing ≡ walks
    passed thing None h = let e = h in cc
    passed thing (Some fault) h = let e = h in cc

-- two walks of a file that passes have few darts together
pub few_darts : (held : Option Files) (name : List ℕ) (mesh : FaceList) (walks : List (List ℕ)) → Passes (pair_in held name mesh) walks
    → length walks ≡ 2 → darts (walk_at walks 0) + darts (walk_at walks 1) ≤ MOST_WALK_VERTICES + MOST_WALK_VERTICES
few_darts held name mesh walks (inl p) two = let e = p.2 in cc
few_darts held name mesh walks (inr p) two =
    let short : All IsShort walks =
    short_among mesh (walks_of p.0) walks (λ all e. short_text p.0 all e) p.2 in
    let first : IsShort (get_or walks 0 []) = short 0 [] (omega (arith, two)) in
    let second : IsShort (get_or walks 1 []) = short 1 [] (omega (arith, two)) in
    omega (arith, first, second)

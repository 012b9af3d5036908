-- Each walk of a text has a vertex.
use Rattle.walk_files.proofs.Common.{◌≡◌, ℕ, ◌+◌, ◌<◌, List, [], ◌∷◌, ◌++◌, length, drop, Bool, true, false, refl, sym, ap, subst, ◌∙◌, arith, All-head, All-tail, All-cons, All-nil, All-push, filter_passes, enumerate_from, sum_by, ok_or, Option, Some, None, Result, Ok, Err, All, if◌then◌else◌, ◌||◌, nat_le, nat_lt, option_map, darts, each_some, each_ok, some_first, ok_first, Line, cut_lines, full_lines, is_filled, lines_from, unmarked, words, number_of, line_of_numbers, plain_walks_of, walk_of, WalkText, behind_vertex, has_header, in_version, read_tokens, token_of, walk_of_line, walk_text_of, walks_behind, within_limits, written_out, WalkFault, TooLong, TooMany, BadGroup, MOST_LINES, MOST_WALK_VERTICES, MOST_WALK_DARTS, MOST_DARTS, Token, Open, Close, Number}
use Rattle.std.specs.Prelude.{map}

abbrev pub HasVertex : List ℕ → Type 0
HasVertex walk = 0 < length walk

some_first_vertex : (vertex : Option ℕ) (others : Option (List ℕ)) (walk : List ℕ) → some_first vertex others ≡ Some walk → HasVertex walk
some_first_vertex None others walk e = cc
some_first_vertex (Some v) None walk e = cc
some_first_vertex (Some v) (Some vs) walk e = let same : v ∷ vs ≡ walk = cc in subst HasVertex same (omega arith)

words_walk : (line : List (List ℕ)) (walk : List ℕ) → is_filled line ≡ true → walk_of line ≡ Some walk → HasVertex walk
words_walk [] walk filled e = cc
words_walk (word ∷ words) walk filled e = some_first_vertex (number_of word) (each_some number_of words) walk e

checked_walk : (many long : Bool) (walk : Option (List ℕ)) (few short bad : WalkFault) (found : List ℕ)
    → (if many then Err few else if long then Err short else ok_or walk bad) ≡ Ok found → walk ≡ Some found
checked_walk true long walk few short bad found e = cc
checked_walk false true walk few short bad found e = cc
checked_walk false false None few short bad found e = cc
checked_walk false false (Some w) few short bad found e = cc

first_walk : {E : Type 0} (first : Result (List ℕ) E) (rest : Result (List (List ℕ)) E) (walks : List (List ℕ))
    → ok_first first rest ≡ Ok walks → ((walk : List ℕ) → first ≡ Ok walk → HasVertex walk)
    → ((others : List (List ℕ)) → rest ≡ Ok others → All HasVertex others) → All HasVertex walks
first_walk (Err fault) rest walks e one more = cc
first_walk (Ok w) (Err fault) walks e one more = cc
first_walk (Ok w) (Ok ws) walks e one more =
    let same : w ∷ ws ≡ walks = cc in subst (All HasVertex) same (All-cons HasVertex w ws (one w refl) (more ws refl))

plain_walks : (n : ℕ) (lines : List Line) (walks : List (List ℕ)) → All (λ line. is_filled line.words ≡ true) lines
    → each_ok (λ p. line_of_numbers walk_of MOST_WALK_VERTICES p.0 p.1) (enumerate_from n lines) ≡ Ok walks → All HasVertex walks
plain_walks n [] walks filled e = let same : [] ≡ walks = cc in subst (All HasVertex) same (All-nil HasVertex)
plain_walks n (line ∷ lines) walks filled e =
    first_walk (line_of_numbers walk_of MOST_WALK_VERTICES n line)
    (each_ok (λ p. line_of_numbers walk_of MOST_WALK_VERTICES p.0 p.1) (enumerate_from (n + 1) lines)) walks e
    (λ walk f. words_walk line.words walk (All-head (λ (l : Line). is_filled l.words ≡ true) line lines filled)
    (checked_walk (nat_le MOST_LINES n) (nat_lt MOST_WALK_VERTICES (length line.words)) (walk_of line.words) _ _ _ walk f))
    (λ others f. plain_walks (n + 1) lines others (All-tail (λ (l : Line). is_filled l.words ≡ true) line lines filled) f)

-- a walk that is written out has a first vertex
tokens_walk : (tokens : List Token) (walk : List ℕ) → written_out tokens ≡ Some walk → HasVertex walk
tokens_walk (Number first ∷ tokens) walk e = behind first (behind_vertex first None tokens) e
  where
    behind : (first : ℕ) (rest : Option (List ℕ)) → option_map (λ r. first ∷ r) rest ≡ Some walk → HasVertex walk
    behind first None e = cc
    behind first (Some r) e = let same : first ∷ r ≡ walk = cc in subst HasVertex same (omega arith)
tokens_walk [] walk e = cc
tokens_walk (Open ∷ tokens) walk e = cc
tokens_walk (Close ∷ tokens) walk e = cc

read_walk : (line : ℕ) (tokens : Option (List Token)) (walk : List ℕ) → read_tokens written_out line tokens ≡ Ok walk → HasVertex walk
read_walk line None walk e = cc
read_walk line (Some tokens) walk e = meant_walk (written_out tokens) refl e
  where
    meant_walk : (found : Option (List ℕ)) → written_out tokens ≡ found → ok_or found (BadGroup line) ≡ Ok walk → HasVertex walk
    meant_walk None f e = cc
    meant_walk (Some w) f e = let same : w ≡ walk = cc in tokens_walk tokens walk (f ∙ ap Some same)

limited_walk : (line total : ℕ) (read : Result (List ℕ) WalkFault) (walk : List ℕ) → within_limits line total read ≡ Ok walk
    → read ≡ Ok walk
limited_walk line total (Err fault) walk e = cc
limited_walk line total (Ok w) walk e =
    ap Ok (in_limits (nat_lt MOST_WALK_DARTS (darts w) || nat_lt MOST_DARTS (total + darts w)) e)
  where
    in_limits : (over : Bool) → (if over then Err (TooLong line) else Ok w) ≡ Ok walk → w ≡ walk
    in_limits true e = cc
    in_limits false e = cc

line_walk : (before total : ℕ) (line : Line) (walk : List ℕ) → walk_of_line before total line ≡ Ok walk → HasVertex walk
line_walk before total line walk e = few (nat_le MOST_LINES before) e
  where
    few : (many : Bool)
        → (if many then Err (TooMany line.number)
        else within_limits line.number total (read_tokens written_out line.number (each_some token_of line.words))) ≡ Ok walk
        → HasVertex walk
    few true e = cc
    few false e =
        read_walk line.number (each_some token_of line.words) walk
        (limited_walk line.number total (read_tokens written_out line.number (each_some token_of line.words)) walk e)

-- one walk more, and those behind it
one_more : (walks : List (List ℕ)) (line : Line) (lines : List Line) (found : List (List ℕ)) (read : Result (List ℕ) WalkFault)
    → walk_of_line (length walks) (sum_by darts walks) line ≡ read → walks_behind walks (line ∷ lines) ≡ Ok found → All HasVertex walks
    → ((walk : List ℕ) → All HasVertex (walks ++ walk ∷ []) → walks_behind (walks ++ walk ∷ []) lines ≡ Ok found → All HasVertex found)
    → All HasVertex found
one_more walks line lines found (Err fault) f e all more =
    let stopped : walks_behind walks (line ∷ lines) ≡ Err fault = rw f refl in absurd (let wrong = sym stopped ∙ e in cc)
one_more walks line lines found (Ok walk) f e all more =
    let rest : walks_behind walks (line ∷ lines) ≡ walks_behind (walks ++ walk ∷ []) lines = rw f refl in
    more walk (All-push HasVertex walks walk all (line_walk (length walks) (sum_by darts walks) line walk f)) (sym rest ∙ e)

grouped_walks : (walks : List (List ℕ)) (lines : List Line) (found : List (List ℕ)) → All HasVertex walks
    → walks_behind walks lines ≡ Ok found → All HasVertex found
grouped_walks walks [] found all e = let same : walks ≡ found = cc in subst (All HasVertex) same all
grouped_walks walks (line ∷ lines) found all e =
    one_more walks line lines found (walk_of_line (length walks) (sum_by darts walks) line) refl e all
    (λ walk more f. grouped_walks (walks ++ walk ∷ []) lines found more f)

in_version_walks : (version : ℕ) (walks : Result (List (List ℕ)) WalkFault) (text : WalkText) → in_version version walks ≡ Ok text
    → walks ≡ Ok text.walks
in_version_walks version (Err fault) text e = cc
in_version_walks version (Ok ws) text e =
    let same : record { version = version; walks = ws } ≡ text = cc in ap (λ (t : WalkText). Ok t.walks) same

lines_filled : (bytes : List ℕ) → All (λ line. is_filled line.words ≡ true) (full_lines bytes)
unfolding lines_from
lines_filled bytes =
    filter_passes (λ (line : Line). is_filled line.words)
    (map (λ p. record { number = p.0; words = words p.1 }) (enumerate_from 1 (cut_lines (unmarked bytes))))

-- each walk that a text stands for has a vertex
pub text_walks : (bytes : List ℕ) (text : WalkText) → walk_text_of bytes ≡ Ok text → All HasVertex text.walks
text_walks bytes text e = by_header (has_header (full_lines bytes)) e
  where
    by_header : (header : Bool)
        → (if header then in_version 2 (walks_behind [] (drop 1 (full_lines bytes))) else in_version 1 (plain_walks_of (full_lines bytes)))
        ≡ Ok text → All HasVertex text.walks
    by_header true e =
        grouped_walks [] (drop 1 (full_lines bytes)) text.walks (All-nil HasVertex)
        (in_version_walks 2 (walks_behind [] (drop 1 (full_lines bytes))) text e)
    by_header false e =
        plain_walks 0 (full_lines bytes) text.walks (lines_filled bytes)
        (in_version_walks 1 (plain_walks_of (full_lines bytes)) text e)

-- Keywords.
use Rattle.off_reader.proofs.Common.{Keyword, is_single_piece, are_pieces, keyword_of, ◌≡◌, ℕ, ◌+◌, ◌<◌, Bool, true, false, cond, eqb, ltb, ◌&&◌, List, [], ◌∷◌, length, take, drop, Bor, length-take-le, refl, sym, ap, ◌∙◌, arith, and_left, and_right, ltb-true, take_all, cond_some, before_first, position_or_len, Option, Some, None, MatchOption, IfSome, IfNone, position, bytes_eq, codes}
use Rattle.std.proofs.Math.Bool.{or-false}
use Rattle.std.proofs.Math.Seq.{drop-length}
use Rattle.std.specs.Cmp.Lexicographic.{pointwise}
use Rattle.text_scan.proofs.ListLemmas.{nowhere}

-- ---- pieces

no_pair : (a b : ℕ) → is_single_piece a ≡ true → bytes_eq (a ∷ b ∷ []) (codes "ST") ≡ false
no_pair a b e = and_left (eqb a 83) (eqb b 84 && true) (grind (arith, e))

pub single_piece : (bytes after : List ℕ) (a : ℕ) → bytes ≡ a ∷ after → is_single_piece a ≡ true → are_pieces bytes ≡ are_pieces after
unfolding are_pieces
single_piece bytes [] a is e = ap are_pieces is ∙ e
single_piece bytes (b ∷ rest) a is e = ap are_pieces is ∙ rw (e, no_pair a b e) (or-false (are_pieces (b ∷ rest)))

pair_step : (bytes : List ℕ) → bytes_eq (take 2 bytes) (codes "ST") ≡ true
    → (are_pieces bytes ≡ are_pieces (drop 2 bytes)) × (length (drop 2 bytes) < length bytes)
unfolding are_pieces
pair_step [] e = cc
pair_step (a ∷ []) e = absurd (grind (arith, e))
pair_step (a ∷ b ∷ rest) e =
    let other : is_single_piece a ≡ false = grind (arith, e) in
    (rw (other, e) refl, omega arith)

no_piece : (bytes after : List ℕ) (a : ℕ) → bytes ≡ a ∷ after → is_single_piece a ≡ false → bytes_eq (take 2 bytes) (codes "ST") ≡ false
    → are_pieces bytes ≡ false
unfolding are_pieces
no_piece bytes [] a is e none = ap are_pieces is ∙ e
no_piece bytes (b ∷ rest) a is e none =
    let other : bytes_eq (a ∷ b ∷ []) (codes "ST") ≡ false = sym (ap (λ (t : List ℕ). bytes_eq (take 2 t) (codes "ST")) is) ∙ none in
    ap are_pieces is ∙ rw (e, other) refl

abbrev pub IsStripped : List ℕ → List ℕ → Option (Bor (List ℕ)) → Type 0
IsStripped s p r =
    MatchOption r (pointwise eqb (take (length p) s) p ≡ false)
    (λ x. (pointwise eqb (take (length p) s) p ≡ true) × (x.now ≡ drop (length p) s) × (length x.now + length p ≡ length s))

pub pair_none : (bytes after : List ℕ) (a : ℕ) (r : Option (Bor (List ℕ))) → bytes ≡ a ∷ after → is_single_piece a ≡ false
    → IsStripped bytes (codes "ST") r
    → IfNone r (0 < length bytes → are_pieces bytes ≡ false)
pair_none bytes after a None is e h = λ some. no_piece bytes after a is e h
pair_none bytes after a (Some x) is e h = tt

pub pair_some : (bytes : List ℕ) (r : Option (Bor (List ℕ))) → IsStripped bytes (codes "ST") r
    → IfSome r (λ after. (are_pieces bytes ≡ are_pieces after.now) × (length after.now < length bytes))
pair_some bytes None h = tt
pair_some bytes (Some x) h =
    let step = pair_step bytes h.0 in
    (step.0 ∙ ap are_pieces (sym h.1), omega (arith, step.1, ap length h.1))

pub no_pieces_left : (pieces rest : List ℕ) → eqb (length rest) 0 ≡ true → are_pieces pieces ≡ are_pieces rest → true ≡ are_pieces pieces
unfolding are_pieces
no_pieces_left pieces [] e so_far = sym so_far
no_pieces_left pieces (a ∷ rest) e so_far = absurd (grind (arith, e))

-- ---- the keyword

abbrev is_o : ℕ → Bool
is_o byte = eqb byte 79

pub without_o : (word : List ℕ) → position is_o word ≡ None → keyword_of word ≡ None
unfolding keyword_of
without_o word e =
    let all : before_first is_o word ≡ word = take_all (position_or_len is_o word) word (nowhere is_o word e) in
    let nothing : drop (length word) word ≡ [] = drop-length word in
    let other : (are_pieces word && false) ≡ false = and_right (are_pieces word) false refl in
    rw (all, nothing, other) refl

-- the keyword where its O stands
abbrev pub keyword_at : List ℕ → ℕ → Option Keyword
keyword_at word at =
    cond (are_pieces (take at word) && bytes_eq (take 3 (drop at word)) (codes "OFF"))
    (Some (record { pieces = take at word; rest = drop 3 (drop at word) })) None

with_o : (word : List ℕ) (at : ℕ) → position is_o word ≡ Some at → keyword_of word ≡ keyword_at word at
unfolding keyword_of
with_o word at e =
    let here = cond_some (ltb (position_or_len is_o word) (length word)) (position_or_len is_o word) at e in
    let same : before_first is_o word ≡ take at word = ap (λ n. take n word) here.1 in
    let long : length (take at word) ≡ at = length-take-le at word (omega (arith, ltb-true _ _ here.0, here.1)) in
    rw (same, long) refl

-- what stands behind the pieces is not OFF
pub no_title : (word behind : List ℕ) (at : ℕ) → position is_o word ≡ Some at → behind ≡ drop at word
    → bytes_eq (take 3 behind) (codes "OFF") ≡ false → keyword_of word ≡ None
no_title word behind at e is none =
    with_o word at e
    ∙ ap (λ b. cond b (Some (record { pieces = take at word; rest = drop 3 (drop at word) })) None)
    (and_right (are_pieces (take at word)) _ (ap (λ (t : List ℕ). bytes_eq (take 3 t) (codes "OFF")) (sym is) ∙ none))

pub no_pieces : (word pieces : List ℕ) (at : ℕ) → position is_o word ≡ Some at → pieces ≡ take at word → are_pieces pieces ≡ false
    → keyword_of word ≡ None
no_pieces word pieces at e is none =
    with_o word at e
    ∙ ap (λ b. cond b (Some (record { pieces = take at word; rest = drop 3 (drop at word) })) None)
    (and_left (are_pieces (take at word)) _ (ap are_pieces (sym is) ∙ none))

pub a_keyword : (word pieces behind rest : List ℕ) (at : ℕ) → position is_o word ≡ Some at → pieces ≡ take at word → behind ≡ drop at word
    → are_pieces pieces ≡ true
    → bytes_eq (take 3 behind) (codes "OFF") ≡ true → rest ≡ drop 3 behind → keyword_of word
    ≡ Some (record { pieces = pieces; rest = rest })
a_keyword word pieces behind rest at e first second good title is =
    let p : are_pieces (take at word) ≡ true = ap are_pieces (sym first) ∙ good in
    let t : bytes_eq (take 3 (drop at word)) (codes "OFF") ≡ true = ap (λ (t : List ℕ). bytes_eq (take 3 t) (codes "OFF")) (sym second)
    ∙ title in
    let r : drop 3 (drop at word) ≡ rest = ap (λ (t : List ℕ). drop 3 t) (sym second) ∙ sym is in
    with_o word at e ∙ rw (p, t, r, sym first) refl

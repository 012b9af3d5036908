-- Lines of numbers, written from their last byte on.
use Rattle.surf_gen.proofs.Common.{◌≡◌, ℕ, suc, ◌-◌, ◌<◌, ◌≤◌, List, [], ◌∷◌, ◌++◌, length, map, drop, get_or, arith, sym, ap, ◌∙◌, refl, drop-cons, decimal, join_with_byte, line_of, append_assoc}

-- what stands in a line behind a number, where these numbers follow
abbrev pub behind_number : List ℕ → List ℕ
behind_number [] = 10 ∷ []
behind_number (n ∷ ns) = 32 ∷ decimal n ++ behind_number ns

-- one number more, from the last one on
pub number_more : (numbers : List ℕ) (place behind : ℕ) (line : List ℕ) → 1 ≤ place → place ≤ length numbers
    → behind ∷ line ≡ behind_number (drop place numbers)
    → 32 ∷ decimal (get_or numbers (place - 1) 0) ++ behind ∷ line ≡ behind_number (drop (place - 1) numbers)
number_more numbers place behind line some within so_far =
    let lt : place - 1 < length numbers = omega arith in
    let same : suc (place - 1) ≡ place = omega arith in
    ap (λ rest. 32 ∷ decimal (get_or numbers (place - 1) 0) ++ rest) so_far
    ∙ sym (ap behind_number (drop-cons numbers (place - 1) 0 lt ∙ ap (λ k. get_or numbers (place - 1) 0 ∷ drop k numbers) same))

line_behind : (n : ℕ) (ns : List ℕ) → decimal n ++ behind_number ns ≡ line_of (map decimal (n ∷ ns))
line_behind n [] = refl
line_behind n (m ∷ ms) =
    ap (λ rest. decimal n ++ 32 ∷ rest) (line_behind m ms)
    ∙ sym (append_assoc (decimal n) (32 ∷ join_with_byte 32 (map decimal (m ∷ ms))) (10 ∷ []))

-- the whole line
pub line_whole : (numbers : List ℕ) (behind : ℕ) (line : List ℕ) → 0 < length numbers
    → behind ∷ line ≡ behind_number (drop 0 numbers) → line ≡ line_of (map decimal numbers)
line_whole [] behind line some so_far = absurd (omega arith)
line_whole (n ∷ ns) behind line some so_far = let tails : line ≡ decimal n ++ behind_number ns = cc in tails ∙ line_behind n ns

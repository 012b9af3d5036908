-- The digits of a number, written from its last one.
use Rattle.surf_io.proofs.Common.{◌≡◌, ℕ, ◌+◌, ◌-◌, ◌/◌, ◌%◌, ◌^◌, ◌≤◌, ◌<◌, List, [], ◌∷◌, ◌++◌, length, drop, set, arith, sym, ap, ◌∙◌, ℤ, pos, negsuc, true, length-append, decimal_digit, decimal_step, decimal_nonempty, length-decimal-le, length-drop, drop-set, decimal, signed_decimal, nat_abs, append_assoc}
use Rattle.std.proofs.lemmas.Bool.{ltb-true}
use Rattle.std.specs.Int.Signed.{lt_z}

-- at most twenty digits are written, and there are some left to write, so there is room
pub room : (text : List ℕ) (start n rest : ℕ) → n < 2 ^ 64 → rest < 2 ^ 64 → length text ≡ 20 → start ≤ 20
    → decimal n ≡ decimal rest ++ drop start text → 1 ≤ start
room text start n rest small less long within split =
    let most : length (decimal n) ≤ 20 = length-decimal-le 20 n (omega arith) (omega arith) small in
    let some : 0 < length (decimal rest) = decimal_nonempty rest less in
    let sum : length (decimal n) ≡ length (decimal rest) + length (drop start text) = ap length split
    ∙ length-append (decimal rest) (drop start text) in
    omega (arith, length-drop start text)

-- one digit more
pub more : (text : List ℕ) (start n rest : ℕ) → rest < 2 ^ 64 → length text ≡ 20 → start ≤ 20 → 1 ≤ start → 10 ≤ rest
    → decimal n ≡ decimal rest ++ drop start text
    → decimal n ≡ decimal (rest / 10) ++ drop (start - 1) (set text (start - 1) (48 + rest % 10))
more text start n rest less long within some big split =
    let lt : start - 1 < length text = omega arith in
    let same : start - 1 + 1 ≡ start = omega arith in
    split
    ∙ ap (λ ds. ds ++ drop start text) (decimal_step rest big less)
    ∙ append_assoc (decimal (rest / 10)) ((48 + rest % 10) ∷ []) (drop start text)
    ∙ ap (λ ds. decimal (rest / 10) ++ ds) (sym (drop-set text (start - 1) (48 + rest % 10) lt
    ∙ ap (λ k. (48 + rest % 10) ∷ drop k text) same))

-- the first digit
pub last : (text : List ℕ) (start n rest : ℕ) → length text ≡ 20 → start ≤ 20 → 1 ≤ start → rest < 10
    → decimal n ≡ decimal rest ++ drop start text
    → drop (start - 1) (set text (start - 1) (48 + rest)) ≡ decimal n
last text start n rest long within some small split =
    let lt : start - 1 < length text = omega arith in
    let same : start - 1 + 1 ≡ start = omega arith in
    drop-set text (start - 1) (48 + rest) lt
    ∙ ap (λ k. (48 + rest) ∷ drop k text) same
    ∙ sym (split ∙ ap (λ ds. ds ++ drop start text) (decimal_digit rest small))

-- a number of 63 bits has at most 19 digits, so there is room for a sign
pub room_for_sign : (text : List ℕ) (start n : ℕ) → n ≤ 2 ^ 63 → length text ≡ 20 → start ≤ 20
    → drop start text ≡ decimal n → 1 ≤ start
room_for_sign text start n small long within split =
    let most : length (decimal n) ≤ 19 = length-decimal-le 19 n (omega arith) (omega arith) (omega arith) in
    omega (arith, length-drop start text, ap length split)

lt_z_pos : (n : ℕ) → lt_z (pos n) (pos 0) ≡ true → ⊥
lt_z_pos n below = omega (arith, ltb-true n 0 below)

-- the sign before the digits of a negative number
pub sign : (text : List ℕ) (start : ℕ) (z : ℤ) → lt_z z (pos 0) ≡ true → length text ≡ 20 → start ≤ 20 → 1 ≤ start
    → drop start text ≡ decimal (nat_abs z)
    → drop (start - 1) (set text (start - 1) 45) ≡ signed_decimal z
sign text start (pos n) below long within some split = absurd (lt_z_pos n below)
sign text start (negsuc n) below long within some split =
    let lt : start - 1 < length text = omega arith in
    let same : start - 1 + 1 ≡ start = omega arith in
    drop-set text (start - 1) 45 lt
    ∙ ap (λ k. 45 ∷ drop k text) same
    ∙ ap (λ ds. 45 ∷ ds) split

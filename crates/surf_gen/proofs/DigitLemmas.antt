-- The digits of a number, written from its last one on.
use Rattle.surf_gen.proofs.Common.{◌≡◌, ℕ, ◌+◌, ◌/◌, ◌%◌, ◌^◌, ◌≤◌, ◌<◌, List, [], ◌∷◌, ◌++◌, length, arith, sym, ap, ◌∙◌, length-append, decimal, append_assoc}
use Rattle.std.proofs.lemmas.Fmt.{decimal_digit, decimal_step, decimal_nonempty, length-decimal-le}

-- the digits of a number of 32 bits
pub ten_digits : (n : ℕ) → n < 2 ^ 32 → length (decimal n) ≤ 10
ten_digits n small = length-decimal-le 10 n (omega arith) (omega arith) (omega arith)

-- there is room for one digit more, where some are left to write
pub room : (n rest : ℕ) (old now : List ℕ) → n < 2 ^ 32 → rest < 2 ^ 32 → decimal n ++ old ≡ decimal rest ++ now
    → length now + 1 ≤ length old + 10
room n rest old now small less split =
    let most : length (decimal n) ≤ 10 = ten_digits n small in
    let some : 0 < length (decimal rest) = decimal_nonempty rest (omega arith) in
    let sum : length (decimal n) + length old ≡ length (decimal rest) + length now =
    sym (length-append (decimal n) old) ∙ ap length split ∙ length-append (decimal rest) now in
    omega arith

-- one digit more
pub more : (n rest : ℕ) (old now : List ℕ) → rest < 2 ^ 32 → 10 ≤ rest → decimal n ++ old ≡ decimal rest ++ now
    → decimal n ++ old ≡ decimal (rest / 10) ++ (48 + rest % 10) ∷ now
more n rest old now less big split =
    split
    ∙ ap (λ ds. ds ++ now) (decimal_step rest big (omega arith))
    ∙ append_assoc (decimal (rest / 10)) ((48 + rest % 10) ∷ []) now

-- the first digit
pub last : (n rest : ℕ) (old now : List ℕ) → rest < 10 → decimal n ++ old ≡ decimal rest ++ now → (48 + rest) ∷ now ≡ decimal n ++ old
last n rest old now small split = sym (split ∙ ap (λ ds. ds ++ now) (decimal_digit rest small))

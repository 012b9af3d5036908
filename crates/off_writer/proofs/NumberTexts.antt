-- Numbers in digits, and lines of them, as they are read.
use Rattle.off_writer.proofs.Common.{◌≡◌, ℕ, ◌^◌, ◌<◌, true, List, [], ◌∷◌, map, ap, ◌∙◌, refl, arith, and_from, All-head, All-tail, list_all, Some, None, All, decimal, if◌then◌else◌, decimal_is, is_filled, is_digit, is_natural, value_of, natural_of}

abbrev pub Fits : ℕ → Type 0
Fits n = n < 2 ^ 32

pub natural-decimal : (n : ℕ) → Fits n → is_natural (decimal n) ≡ true
unfolding is_natural
natural-decimal n fits =
    let d = decimal_is n (omega (arith, fits)) in
    and_from (is_filled (decimal n)) (list_all is_digit (decimal n)) d.filled d.all

pub value-decimal : (n : ℕ) → Fits n → value_of (decimal n) ≡ n
value-decimal n fits = (decimal_is n (omega (arith, fits))).value

pub natural_of-decimal : (n : ℕ) → Fits n → natural_of (decimal n) ≡ Some n
natural_of-decimal n fits =
    ap (λ b. if b then Some (value_of (decimal n)) else None) (natural-decimal n fits) ∙ ap Some (value-decimal n fits)

pub naturals-decimal : (ns : List ℕ) → All Fits ns → list_all is_natural (map decimal ns) ≡ true
naturals-decimal [] small = refl
naturals-decimal (n ∷ ns) small =
    and_from (is_natural (decimal n)) (list_all is_natural (map decimal ns)) (natural-decimal n (All-head Fits n ns small))
    (naturals-decimal ns (All-tail Fits n ns small))

pub values-decimal : (ns : List ℕ) → All Fits ns → map value_of (map decimal ns) ≡ ns
values-decimal [] small = refl
values-decimal (n ∷ ns) small =
    ap (λ v. v ∷ map value_of (map decimal ns)) (value-decimal n (All-head Fits n ns small))
    ∙ ap (λ (vs : List ℕ). n ∷ vs) (values-decimal ns (All-tail Fits n ns small))

-- So many words, by the texts of each.
use Rattle.program.proofs.Common.{texts, ◌≡◌, ◌<◌, ◌≤◌, ℕ, List, [], ◌∷◌, length, get_or, ap, sym, ◌∙◌, arith, string_bytes, String}
use Rattle.std.specs.Global.{Global}

text_is : (word found : String Global) (text : List ℕ) → found ≡ word → text ≡ string_bytes found → string_bytes word ≡ text
text_is word found text is of = sym (of ∙ ap string_bytes is)

pub three_texts : (words : List (String Global)) (a b c : String Global) (x y z : List ℕ) → 3 ≤ length words → length words < 4
    → a ≡ get_or words 0 a → b ≡ get_or words 1 b → c ≡ get_or words 2 c
    → x ≡ string_bytes a → y ≡ string_bytes b → z ≡ string_bytes c → texts words ≡ x ∷ y ∷ z ∷ []
three_texts [] a b c x y z least most p q r s t u = absurd (omega (arith, least))
three_texts (v ∷ []) a b c x y z least most p q r s t u = absurd (omega (arith, least))
three_texts (v ∷ w ∷ []) a b c x y z least most p q r s t u = absurd (omega (arith, least))
three_texts (v ∷ w ∷ m ∷ []) a b c x y z least most p q r s t u = cc (text_is v a x p s, text_is w b y q t, text_is m c z r u)
three_texts (v ∷ w ∷ m ∷ n ∷ words) a b c x y z least most p q r s t u = absurd (omega (arith, most))

pub four_texts : (words : List (String Global)) (a b c d : String Global) (x y z t : List ℕ) → 4 ≤ length words → length words < 5
    → a ≡ get_or words 0 a → b ≡ get_or words 1 b → c ≡ get_or words 2 c → d ≡ get_or words 3 d
    → x ≡ string_bytes a → y ≡ string_bytes b → z ≡ string_bytes c → t ≡ string_bytes d → texts words ≡ x ∷ y ∷ z ∷ t ∷ []
four_texts [] a b c d x y z t least most p q r s e f g h = absurd (omega (arith, least))
four_texts (v ∷ words) a b c d x y z t least most p q r s e f g h =
    let others : texts words ≡ y ∷ z ∷ t ∷ [] =
    three_texts words b c d y z t (omega (arith, least)) (omega (arith, most)) q r s f g h in
    cc (text_is v a x p e, others)

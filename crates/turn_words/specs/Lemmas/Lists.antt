-- Lists of entries below a degree, and lists read from their end.
use Rattle.std.proofs.Common.{◌≡◌, ℕ, ◌<◌, ◌∙◌, ap, List, [], ◌∷◌, ◌++◌, reverse, append_assoc}
use Rattle.std.proofs.lemmas.List.{reverse-append}

-- each entry is below the degree
abbrev pub InRange : ℕ → List ℕ → Type 0
InRange d [] = Unit {0}
InRange d (x ∷ rest) = (x < d) × InRange d rest

pub reverse-cons : (x : ℕ) (r : List ℕ) → reverse (x ∷ r) ≡ reverse r ++ (x ∷ [])
reverse-cons x r = reverse-append (x ∷ []) r

-- the last entry of a word, read from its end
pub reverse-next : (x : ℕ) (r w : List ℕ) → reverse (x ∷ r) ++ w ≡ reverse r ++ (x ∷ w)
reverse-next x r w = ap (λ l. l ++ w) (reverse-cons x r) ∙ append_assoc (reverse r) (x ∷ []) w

-- Writing in front of an array.
use Rattle.homotopy_c.proofs.Common.{◌≡◌, ℕ, ◌+◌, ◌<◌, List, [], ◌∷◌, ◌++◌, length, take, get_or, set, append_assoc, length-take-le, sym, ap, ◌∙◌, arith, drop_more, length-map, map-append, set_at, take_more, map}
use Rattle.std.proofs.Common.{drop}

-- one item more stands in front
pub one_put : {X : Type 0} (f : X → ℕ) (items : List X) (old room : List ℕ) (k y : ℕ) (d : X) → k < length items → k < length old
    → y ≡ f (get_or items k d) → room ≡ map f (take k items) ++ drop k old → set room k y ≡ map f (take (k + 1) items) ++ drop (k + 1) old
one_put {X} f items old room k y d below within is h =
    let front : List ℕ = map f (take k items) in
    let rest : List ℕ = drop (k + 1) old in
    let many : length front ≡ k = length-map (take k items) f ∙ length-take-le k items (omega arith) in
    let more : front ++ y ∷ [] ≡ map f (take (k + 1) items) =
    ap (λ (n : ℕ). front ++ n ∷ []) is ∙ sym (map-append f (take k items) (get_or items k d ∷ []))
    ∙ ap (map f) (sym (take_more items k d below)) in
    ap (λ (l : List ℕ). set l k y) (h ∙ ap (λ (l : List ℕ). front ++ l) (drop_more old k 0 within))
    ∙ set_at front (get_or old k 0) rest y k many ∙ sym (append_assoc front (y ∷ []) rest) ∙ ap (λ (l : List ℕ). l ++ rest) more

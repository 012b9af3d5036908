-- Walks that go on through points of the first torus, one after the other.
use Rattle.surf_gen.proofs.Common.{◌≡◌, ℕ, ◌+◌, List, [], ◌∷◌, ◌++◌, map, arith, sym, ap, ◌∙◌, map-append, map-range_with_len_more, range_with_len, number, Point, append_assoc}

-- one point more
pub passed_more : (grid : ℕ) (f : ℕ → Point) (start now next : List ℕ) (n vertex : ℕ) → next ≡ now ++ vertex ∷ []
    → vertex ≡ number grid (f n) → now ≡ start ++ map (number grid) (map f (range_with_len 0 n))
    → next ≡ start ++ map (number grid) (map f (range_with_len 0 (n + 1)))
passed_more grid f start now next n vertex pushed is so_far =
    let before = map f (range_with_len 0 n) in
    let longer : map f (range_with_len 0 (n + 1)) ≡ before ++ f n ∷ [] = map-range_with_len_more f 0 n n (omega arith) in
    pushed
    ∙ ap (λ v. now ++ v ∷ []) is
    ∙ ap (λ w. w ++ number grid (f n) ∷ []) so_far
    ∙ append_assoc start (map (number grid) before) (number grid (f n) ∷ [])
    ∙ ap (λ w. start ++ w) (sym (ap (map (number grid)) longer ∙ map-append (number grid) before (f n ∷ [])))

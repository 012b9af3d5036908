-- A part of the text grows by the points of a column, a row or a torus.
use Rattle.surf_gen.proofs.Common.{◌≡◌, ℕ, ◌+◌, List, [], ◌∷◌, ◌++◌, map, arith, sym, ap, ◌∙◌, map-id, flat_map-append, map-range_with_len_more, range_with_len, flat_map, part_text, Point, append_assoc, append-nil}
use Rattle.surf_gen.specs.declared.text.Part.{Part}

-- the text of some points and of others
part_text-append : (genus grid : ℕ) (part : Part) (ps qs : List Point)
    → part_text genus grid part (ps ++ qs) ≡ part_text genus grid part ps ++ part_text genus grid part qs
part_text-append genus grid part ps qs = flat_map-append _ ps qs

-- the text behind which that of further points was put
pub part_more : (genus grid : ℕ) (part : Part) (start now : List ℕ) (ps qs all : List Point)
    → now ≡ start ++ part_text genus grid part ps → all ≡ ps ++ qs
    → now ++ part_text genus grid part qs ≡ start ++ part_text genus grid part all
part_more genus grid part start now ps qs all so_far joined =
    ap (λ text. text ++ part_text genus grid part qs) so_far
    ∙ append_assoc start (part_text genus grid part ps) (part_text genus grid part qs)
    ∙ ap (λ text. start ++ text) (sym (ap (part_text genus grid part) joined ∙ part_text-append genus grid part ps qs))

range-more : (n : ℕ) → range_with_len 0 (n + 1) ≡ range_with_len 0 n ++ n ∷ []
range-more n =
    sym (map-id (range_with_len 0 (n + 1))) ∙ map-range_with_len_more (λ k. k) 0 n n (omega arith)
    ∙ ap (λ ks. ks ++ n ∷ []) (map-id (range_with_len 0 n))

-- one column more
pub columns_more : (f : ℕ → Point) (n : ℕ) → map f (range_with_len 0 (n + 1)) ≡ map f (range_with_len 0 n) ++ f n ∷ []
columns_more f n = map-range_with_len_more f 0 n n (omega arith)

-- one row or torus more
pub rows_more : (f : ℕ → List Point) (n : ℕ) → flat_map f (range_with_len 0 (n + 1)) ≡ flat_map f (range_with_len 0 n) ++ f n
rows_more f n =
    ap (flat_map f) (range-more n)
    ∙ flat_map-append f (range_with_len 0 n) (n ∷ [])
    ∙ ap (λ ps. flat_map f (range_with_len 0 n) ++ ps) (append-nil (f n))

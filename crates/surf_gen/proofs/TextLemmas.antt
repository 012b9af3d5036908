-- The text of a chain of tori, in its parts.
use Rattle.surf_gen.proofs.Common.{◌≡◌, ℕ, Bool, true, false, not, cond, List, [], ◌∷◌, ◌++◌, length, map, sym, ap, ◌∙◌, refl, length-map, map-append, flat_map-append, decimal, filter, flat_map, codes, if◌then◌else◌, points, is_glued, is_cut_out, vertices, cells, face, part_text, Point, line_of, append_assoc, append-nil}
use Rattle.surf_gen.specs.ChainTexts.{coordinates, chain_text}
use Rattle.surf_gen.specs.declared.text.Part.TheVariants.{Vertices, Faces}

-- lines of numbers
abbrev pub lines_text : List (List ℕ) → List ℕ
lines_text lines = flat_map line_of (map (map decimal) lines)

lines_text-append : (xs ys : List (List ℕ)) → lines_text (xs ++ ys) ≡ lines_text xs ++ lines_text ys
lines_text-append xs ys =
    ap (flat_map line_of) (map-append (map decimal) xs ys) ∙ flat_map-append line_of (map (map decimal) xs) (map (map decimal) ys)

-- the line of a point before others, where it is not left out
line_more : (b : Bool) (line : Point → List ℕ) (p : Point) (others : List Point)
    → flat_map (λ numbers. line_of (map decimal numbers)) (if b then [] else line p ∷ []) ++ lines_text (map line others)
    ≡ lines_text (map line (cond (not b) (p ∷ others) others))
line_more true line p others = refl
line_more false line p others = ap (λ text. text ++ lines_text (map line others)) (append-nil (line_of (map decimal (line p))))

-- a part has the lines of the points that it does not leave out
part_lines : (out : Point → Bool) (line : Point → List ℕ) (ps : List Point)
    → flat_map (λ p. flat_map (λ numbers. line_of (map decimal numbers)) (if out p then [] else line p ∷ [])) ps
    ≡ lines_text (map line (filter (λ p. not (out p)) ps))
part_lines out line [] = refl
part_lines out line (p ∷ ps) =
    ap (λ text. flat_map (λ numbers. line_of (map decimal numbers)) (if out p then [] else line p ∷ []) ++ text) (part_lines out line ps)
    ∙ line_more (out p) line p (filter (λ q. not (out q)) ps)

-- a face has four corners
face_lines : (grid : ℕ) (ps : List Point) → map (λ p. 4 ∷ face grid p) ps ≡ map (λ ring. length ring ∷ ring) (map (face grid) ps)
face_lines grid [] = refl
face_lines grid (p ∷ ps) = ap (λ lines. (4 ∷ face grid p) ∷ lines) (face_lines grid ps)

-- the keyword, the counts, the vertices and the faces
pub whole_text : (genus grid v f : ℕ) (keyword counted listed all : List ℕ) → v ≡ length (vertices genus grid)
    → f ≡ length (cells genus grid)
    → keyword ≡ codes "OFF" ++ 10 ∷ [] → counted ≡ keyword ++ line_of (map decimal (v ∷ f ∷ 0 ∷ []))
    → listed ≡ counted ++ part_text genus grid Vertices (points genus grid) → all
    ≡ listed ++ part_text genus grid Faces (points genus grid)
    → all ≡ chain_text genus grid
whole_text genus grid v f keyword counted listed all vs fs first second third fourth =
    let places = map coordinates (vertices genus grid) in
    let rings = map (face grid) (cells genus grid) in
    let places_part : part_text genus grid Vertices (points genus grid)
    ≡ lines_text places = part_lines is_glued coordinates (points genus grid) in
    let faces_part : part_text genus grid Faces (points genus grid) ≡ lines_text (map (λ ring. length ring ∷ ring) rings) =
    part_lines (is_cut_out genus) (λ p. 4 ∷ face grid p) (points genus grid) ∙ ap lines_text (face_lines grid (cells genus grid)) in
    let counts : v ∷ f ∷ 0 ∷ [] ≡ length (vertices genus grid) ∷ length rings ∷ 0 ∷ [] =
    ap (λ k. k ∷ f ∷ 0 ∷ []) vs
    ∙ ap (λ k. length (vertices genus grid) ∷ k ∷ 0 ∷ []) (fs ∙ sym (length-map (cells genus grid) (face grid))) in
    let head = codes "OFF" ++ 10 ∷ [] in
    let line = line_of (map decimal (length (vertices genus grid) ∷ length rings ∷ 0 ∷ [])) in
    fourth
    ∙ ap (λ text. text ++ part_text genus grid Faces (points genus grid)) third
    ∙ ap (λ text. (text ++ part_text genus grid Vertices (points genus grid)) ++ part_text genus grid Faces (points genus grid))
    (second
    ∙ ap (λ text. text ++ line_of (map decimal (v ∷ f ∷ 0 ∷ []))) first
    ∙ ap (λ numbers. head ++ line_of (map decimal numbers)) counts)
    ∙ ap (λ text. ((head ++ line) ++ text) ++ part_text genus grid Faces (points genus grid)) places_part
    ∙ ap (λ text. ((head ++ line) ++ lines_text places) ++ text) faces_part
    ∙ append_assoc (head ++ line) (lines_text places) (lines_text (map (λ ring. length ring ∷ ring) rings))
    ∙ ap (λ text. (head ++ line) ++ text) (sym (lines_text-append places (map (λ ring. length ring ∷ ring) rings)))
    ∙ append_assoc head line (lines_text (places ++ map (λ ring. length ring ∷ ring) rings))

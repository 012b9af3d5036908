-- The parts of the text: what private contracts cite alone.
use Rattle.std.specs.Prelude.{ℕ, if◌then◌else◌, List, [], ◌∷◌, map, flat_map, decimal}
use Rattle.std.specs.List.{range_with_len}
use Rattle.surf_gen.specs.declared.points.Point.{Point}
use Rattle.surf_gen.specs.declared.text.Part.{Part}
use Rattle.surf_gen.specs.declared.text.Part.TheVariants.{Vertices, Faces}
use Rattle.surf_gen.specs.Chains.{point, is_glued, is_cut_out, face}
use Rattle.surf_gen.specs.ChainTexts.{coordinates}
use Rattle.text_scan.specs.Plain.{line_of}

-- the points of a row of a torus, and of a torus
abbrev pub points_of_row : ℕ → ℕ → ℕ → List Point
points_of_row grid torus row = map (point torus row) (range_with_len 0 grid)

abbrev pub points_of_torus : ℕ → ℕ → List Point
points_of_torus grid torus = flat_map (points_of_row grid torus) (range_with_len 0 grid)

-- the line of numbers of a point in a part, none where it has no line there
abbrev pub point_numbers : ℕ → ℕ → Part → Point → List (List ℕ)
point_numbers genus grid Vertices p = if is_glued p then [] else coordinates p ∷ []
point_numbers genus grid Faces p = if is_cut_out genus p then [] else (4 ∷ face grid p) ∷ []

-- the text of a part, at some points
abbrev pub part_text : ℕ → ℕ → Part → List Point → List ℕ
part_text genus grid part = flat_map (λ p. flat_map (λ numbers. line_of (map decimal numbers)) (point_numbers genus grid part p))

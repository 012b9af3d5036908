-- The text of a chain of tori in the format OFF.
use Rattle.std.specs.Prelude.{ℕ, List, [], ◌∷◌, ◌++◌, length, map, flat_map, codes, decimal}
use Rattle.text_scan.specs.Plain.{line_of}
use Rattle.surf_model.specs.FaceLists.{FaceList}
use Rattle.surf_gen.specs.declared.points.Point.{Point}
use Rattle.surf_gen.specs.Chains.{vertices, chain_mesh}

-- the coordinates of a vertex: its torus, row and column
abbrev pub coordinates : Point → List ℕ
coordinates p = p.torus ∷ p.row ∷ p.column ∷ []

-- the lines of numbers of a mesh whose vertices have these coordinates: the counts, the vertices and the faces, each
-- face behind its number of corners
abbrev pub number_lines : FaceList → List (List ℕ) → List (List ℕ)
number_lines mesh places = (mesh.count ∷ length mesh.faces ∷ 0 ∷ []) ∷ places ++ map (λ face. length face ∷ face) mesh.faces

-- the text: the keyword, and the lines of numbers
abbrev pub chain_text : ℕ → ℕ → List ℕ
chain_text genus grid =
    flat_map line_of
    ((codes "OFF" ∷ []) ∷ map (map decimal) (number_lines (chain_mesh genus grid) (map coordinates (vertices genus grid))))

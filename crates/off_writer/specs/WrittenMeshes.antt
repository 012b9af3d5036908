-- The text of a mesh in the format OFF. A face list has no points, so each vertex is written as the point 0 0 0; and edges are not counted,
-- which the format allows.
use Rattle.std.specs.Prelude.{ℕ, List, [], ◌∷◌, ◌++◌, length, map, flat_map, replicate, codes, decimal}
use Rattle.text_scan.specs.Plain.{line_of}
use Rattle.surf_model.specs.FaceLists.{FaceList}

-- the words of a vertex
abbrev pub point_words : List (List ℕ)
point_words = codes "0" ∷ codes "0" ∷ codes "0" ∷ []

-- the words of a face: how many corners it has, and their vertices
abbrev pub ring_words : List ℕ → List (List ℕ)
ring_words face = map decimal (length face ∷ face)

-- the words of each line: the keyword, the counts, the vertices and the faces
abbrev pub mesh_lines : FaceList → List (List (List ℕ))
mesh_lines mesh =
    (codes "OFF" ∷ []) ∷ (decimal mesh.count ∷ decimal (length mesh.faces) ∷ codes "0" ∷ [])
    ∷ (replicate mesh.count point_words ++ map ring_words mesh.faces)

-- the text
abbrev pub off_text : FaceList → List ℕ
off_text mesh = flat_map line_of (mesh_lines mesh)

-- What stands before the vertices and faces of a mesh.
use Rattle.std.specs.Prelude.{ℕ, List, [], ◌∷◌, ◌++◌, length, codes, decimal}
use Rattle.text_scan.specs.Plain.{line_of}
use Rattle.surf_model.specs.FaceLists.{FaceList}

-- the lines of the keyword and of the counts
abbrev pub head_text : FaceList → List ℕ
head_text mesh = line_of (codes "OFF" ∷ []) ++ line_of (decimal mesh.count ∷ decimal (length mesh.faces) ∷ codes "0" ∷ [])

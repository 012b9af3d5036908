-- The lines of a triangle. It is proved by computing.
use Rattle.std.specs.Prelude.{◌≡◌, [], ◌∷◌, codes, decimal, refl}
use Rattle.surf_model.specs.FaceLists.{FaceList}
use Rattle.off_writer.specs.WrittenMeshes.{mesh_lines, point_words}

abbrev pub turned_triangle : FaceList
turned_triangle = record { count = 3; faces = (2 ∷ 0 ∷ 1 ∷ []) ∷ [] }

triangle_lines :
    mesh_lines turned_triangle
    ≡ (codes "OFF" ∷ []) ∷ (decimal 3 ∷ decimal 1 ∷ codes "0" ∷ []) ∷ point_words ∷ point_words ∷ point_words
    ∷ (decimal 3 ∷ decimal 2 ∷ decimal 0 ∷ decimal 1 ∷ []) ∷ []
triangle_lines = refl

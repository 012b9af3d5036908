-- A labelling of some faces of a mesh, widened to the whole mesh.
use Rattle.std.specs.Prelude.{◌≡◌, ℕ, ◌<◌, Bool, List, length, slice_index, replicate, Contains}
use Rattle.surf_model.specs.FaceLists.{FaceList, face_at}
use Rattle.labellings.specs.Labellings.{LabellingView, labels_at, signs_of}

-- the degree and the places stay, the faces with these names keep their labels, all other corners have the label 0, and the signs
-- are those of the whole mesh
pub record IsWidened (mesh : FaceList) (signs : List Bool) (names : List ℕ) (narrow wide : LabellingView) : Type 0 where
  pub degree : wide.degree ≡ narrow.degree
  pub places : wide.places ≡ narrow.places
  pub all_signs : signs_of wide ≡ signs
  pub each_face : length wide.faces ≡ length mesh.faces
  pub labels : (f : ℕ) → f < length names → labels_at wide (slice_index names f) ≡ labels_at narrow f
  pub others : (f : ℕ) → f < length mesh.faces → (Contains names f → ⊥) → labels_at wide f ≡ replicate (length (face_at mesh f)) 0

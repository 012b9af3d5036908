-- Labellings: a label for each corner of a mesh, which names a spoke of a system of quads, with a sign for each face and the places
-- of the spokes round its one vertex.
use Rattle.std.specs.Prelude.{ℕ, Bool, false, List, [], map, slice_index, slice_index_or, if◌then◌else◌}
use Rattle.surf_model.specs.FaceLists.{FaceList}
use Rattle.surf_model.specs.Darts.{side_after}
use Rattle.surf_model.specs.Surfaces.{is_flipped}
use Rattle.surf_model.specs.declared.edges.Side.{Side}

-- the sign of a face, true for a flipped one, and the labels of its corners, in the order of the file
pub record FaceLabels : Type 0 where
  pub flipped : Bool
  pub labels : List ℕ

-- how many spokes there are, the faces, and the place of each spoke
pub record LabellingView : Type 0 where
  pub degree : ℕ
  pub faces : List FaceLabels
  pub places : List ℕ

-- the labels of face f; none where the labelling has no such face
abbrev pub labels_at : LabellingView → ℕ → List ℕ
labels_at labelling f = (slice_index_or labelling.faces f (record { flipped = false; labels = [] })).labels

abbrev pub signs_of : LabellingView → List Bool
signs_of labelling = map (λ face. face.flipped) labelling.faces

-- the label of a corner, which bears the name of the side that starts there
abbrev pub label_at : LabellingView → Side → ℕ
label_at labelling corner = slice_index (labels_at labelling corner.face.0) corner.at

-- the labels at the tail and at the head of a side, once its face is turned round as its sign says
abbrev pub tail_label : FaceList → LabellingView → Side → ℕ
tail_label mesh labelling side =
    if is_flipped (signs_of labelling) side.face.0 then label_at labelling (side_after mesh side) else label_at labelling side

abbrev pub head_label : FaceList → LabellingView → Side → ℕ
head_label mesh labelling side =
    if is_flipped (signs_of labelling) side.face.0 then label_at labelling side else label_at labelling (side_after mesh side)

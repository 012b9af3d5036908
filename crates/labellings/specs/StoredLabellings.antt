-- How a labelling lies in memory: the signs of the faces, all labels one after another, and the place where those of each face end.
use Rattle.std.specs.Prelude.{◌≡◌, ℕ, ◌-◌, ◌^◌, ◌<◌, Bool, List, [], ◌∷◌, length, slice_index}
use Rattle.surf_model.specs.Parts.{parts, EndsRise}
use Rattle.labellings.specs.Labellings.{FaceLabels, LabellingView}

-- a sign and a list of labels for each face
abbrev pub with_signs : List Bool → List (List ℕ) → List FaceLabels
with_signs [] parts = []
with_signs (flipped ∷ signs) [] = []
with_signs (flipped ∷ signs) (labels ∷ parts) = record { flipped = flipped; labels = labels } ∷ with_signs signs parts

-- the labelling that lies so
abbrev pub stored_labelling : ℕ → List Bool → List ℕ → List ℕ → List ℕ → LabellingView
stored_labelling degree signs ends labels places =
    record { degree = degree; faces = with_signs signs (parts 0 ends labels); places = places }

pub record IsStoredLabelling (signs : List Bool) (ends labels places : List ℕ) : Type 0 where
  pub each_face : length signs ≡ length ends
  pub rising : EndsRise 0 ends (length labels)
  pub few_faces : length ends < 2 ^ 32
  pub few_labels : (f : ℕ) → f < length ends → slice_index ends f - slice_index (0 ∷ ends) f < 2 ^ 32
  pub few_places : length places < 2 ^ 32

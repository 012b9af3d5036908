-- The first rule of a good labelling that fails, with its least element.
use Rattle.std.specs.Prelude.{◌≡◌, ℕ, ◌<◌, length, All, IsTrue}
use Rattle.surf_model.specs.FaceLists.{FaceList, face_at, is_edge}
use Rattle.surf_model.specs.Edges.{IsPairBefore}
use Rattle.turn_words.specs.Wheels.{IsFirstTwice}
use Rattle.labellings.specs.Labellings.{LabellingView, labels_at}
use Rattle.labellings.specs.GoodLabellings.{HasShape, HasDegree, HasPlaces, EdgeMeetsRule}
use Rattle.labellings.specs.declared.fault.LabelFault.{LabelFault}
use Rattle.labellings.specs.declared.fault.LabelFault.TheVariants.{Shape, Degree, PlaceTwice, EdgeRule, OutOfMemory}

-- the face has a label for each of its corners, and all are below the degree
pub record FitsFace (mesh : FaceList) (labelling : LabellingView) (f : ℕ) : Type 0 where
  pub each_corner : length (labels_at labelling f) ≡ length (face_at mesh f)
  pub labels_below : All (λ label. label < labelling.degree) (labels_at labelling f)

-- the least edge, by its lower and then by its higher vertex, that meets no rule
pub record IsLeastAgainstRules (mesh : FaceList) (labelling : LabellingView) (low high : ℕ) : Type 0 where
  pub ordered : low < high
  pub edge : IsTrue (is_edge mesh low high)
  pub against : EdgeMeetsRule mesh labelling low high → ⊥
  pub least : (a b : ℕ) → a < b → IsTrue (is_edge mesh a b) → IsPairBefore a b low high → EdgeMeetsRule mesh labelling a b

-- the first rule that fails, where those before it hold
abbrev pub IsFirstLabelFault : FaceList → LabellingView → LabelFault → Type 0
IsFirstLabelFault mesh labelling Shape = HasShape mesh labelling → ⊥
IsFirstLabelFault mesh labelling (Degree degree) = HasShape mesh labelling × (HasDegree labelling → ⊥) × (degree ≡ labelling.degree)
IsFirstLabelFault mesh labelling (PlaceTwice place) = HasShape mesh labelling × HasDegree labelling × IsFirstTwice labelling.places place
IsFirstLabelFault mesh labelling (EdgeRule low high) =
    HasShape mesh labelling × HasDegree labelling × HasPlaces labelling × IsLeastAgainstRules mesh labelling low.0 high.0
IsFirstLabelFault mesh labelling OutOfMemory = ⊥

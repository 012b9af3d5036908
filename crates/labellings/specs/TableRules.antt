-- The rules, said of the table of a mesh: what private contracts cite alone.
use Rattle.std.specs.Prelude.{ℕ, ◌<◌, List, length}
use Rattle.surf_model.specs.FaceLists.{FaceList}
use Rattle.surf_model.specs.Edges.{Edge, edge_in}
use Rattle.turn_words.specs.Wheels.{IsFirstTwice}
use Rattle.labellings.specs.Labellings.{LabellingView}
use Rattle.labellings.specs.GoodLabellings.{EdgeMeetsRule}
use Rattle.labellings.specs.declared.fault.LabelFault.{LabelFault}
use Rattle.labellings.specs.declared.fault.LabelFault.TheVariants.{Shape, Degree, PlaceTwice, EdgeRule, OutOfMemory}

-- the edge of the table meets a rule
abbrev pub EntryMeetsRule : FaceList → List Edge → LabellingView → ℕ → Type 0
EntryMeetsRule mesh table labelling k = EdgeMeetsRule mesh labelling (edge_in table k).low (edge_in table k).high

-- the first edge of the table that meets no rule
pub record IsFirstAgainstRules (mesh : FaceList) (table : List Edge) (labelling : LabellingView) (k : ℕ) : Type 0 where
  pub in_table : k < length table
  pub against : EntryMeetsRule mesh table labelling k → ⊥
  pub first : (j : ℕ) → j < k → EntryMeetsRule mesh table labelling j

-- why places that are all below the degree make no wheel
abbrev pub IsPlaceFault : LabellingView → LabelFault → Type 0
IsPlaceFault labelling Shape = ⊥
IsPlaceFault labelling (Degree degree) = ⊥
IsPlaceFault labelling (PlaceTwice place) = IsFirstTwice labelling.places place
IsPlaceFault labelling (EdgeRule low high) = ⊥
IsPlaceFault labelling OutOfMemory = Unit {0}

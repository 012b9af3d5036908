-- A connected surface with its labels, and the words of its walks.
use Rattle.std.specs.Prelude.{◌≡◌, ℕ, List, [], Option, MatchOption}
use Rattle.halfedge_map.specs.OrientedMeshes.{OrientedMesh, IsOrientedSurface}
use Rattle.labellings.specs.Labellings.{LabellingView}
use Rattle.labellings.specs.WalkWords.{IsWordOf}
use Rattle.turn_words.specs.declared.word.Word.{Word}
use Rattle.turn_words.specs.declared.word.Word.TheVariants.{Turns}
use Rattle.walk_translate.specs.SurfaceLabels.{HasSphereSplit, IsLabelledByCut}

-- a connected surface, and the labels of its corners; a sphere has none
pub record LabelledView : Type 0 where
  pub surface : OrientedMesh
  pub labels : Option LabellingView

-- the labels are those of a cut
pub record IsLabelledSurface (labelled : LabelledView) : Type 0 where
  pub oriented : IsOrientedSurface labelled.surface
  pub labels : MatchOption labelled.labels (HasSphereSplit labelled.surface) (IsLabelledByCut labelled.surface)

-- the word of a walk of a connected surface under its labels; on a sphere that of no turns
abbrev pub IsWordUnder : LabelledView → List ℕ → Word → Type 0
IsWordUnder labelled walk word =
    MatchOption labelled.labels (word ≡ Turns []) (λ labelling. IsWordOf labelled.surface.mesh labelling walk word)

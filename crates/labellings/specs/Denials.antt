-- When a denial holds.
use Rattle.std.specs.Prelude.{◌≢◌, ℕ, List}
use Rattle.surf_model.specs.FaceLists.{FaceList}
use Rattle.labellings.specs.GoodLabellings.{IsGood}
use Rattle.labellings.specs.WalkWords.{IsWordOf}
use Rattle.labellings.specs.declared.denial.Denial.{Denial}

-- A denial holds for a mesh and two walks where its labelling is good for the mesh, its words are those of the walks, and they differ.
pub record DenialHolds (mesh : FaceList) (first second : List ℕ) (denial : Denial) : Type 0 where
  pub good : IsGood mesh denial.labelling
  pub first_word : IsWordOf mesh denial.labelling first denial.first
  pub second_word : IsWordOf mesh denial.labelling second denial.second
  pub differ : denial.first ≢ denial.second

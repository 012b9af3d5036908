-- What comes of checking a denial: the first part that fails.
use Rattle.std.specs.Prelude.{◌≡◌, ◌⊎◌, ℕ, List}
use Rattle.surf_model.specs.FaceLists.{FaceList}
use Rattle.labellings.specs.GoodLabellings.{IsGood}
use Rattle.labellings.specs.LabelFaults.{IsFirstLabelFault}
use Rattle.labellings.specs.WalkWords.{IsWordOf}
use Rattle.labellings.specs.Denials.{DenialHolds}
use Rattle.labellings.specs.declared.denial.Denial.{Denial}
use Rattle.labellings.specs.declared.verdict.DenialVerdict.{DenialVerdict}
use Rattle.labellings.specs.declared.verdict.DenialVerdict.TheVariants.{Label, WordWrong, Equal, Accepted}

-- the first word is that of the first walk
abbrev pub FirstIsRight : FaceList → List ℕ → Denial → Type 0
FirstIsRight mesh first denial = IsWordOf mesh denial.labelling first denial.first

-- the second word is that of the second walk
abbrev pub SecondIsRight : FaceList → List ℕ → Denial → Type 0
SecondIsRight mesh second denial = IsWordOf mesh denial.labelling second denial.second

-- the least walk, counted from 1, whose word is not that of the denial
abbrev pub IsFirstWrong : FaceList → List ℕ → List ℕ → Denial → ℕ → Type 0
IsFirstWrong mesh first second denial walk =
    ((walk ≡ 1) × (FirstIsRight mesh first denial → ⊥))
    ⊎ ((walk ≡ 2) × FirstIsRight mesh first denial × (SecondIsRight mesh second denial → ⊥))

-- The first that holds: a rule of good labellings fails, the word of a walk is wrong, both are right and equal, or the denial holds.
abbrev pub IsDenialVerdict : FaceList → List ℕ → List ℕ → Denial → DenialVerdict → Type 0
IsDenialVerdict mesh first second denial (Label fault) = IsFirstLabelFault mesh denial.labelling fault
IsDenialVerdict mesh first second denial (WordWrong walk) = IsGood mesh denial.labelling × IsFirstWrong mesh first second denial walk
IsDenialVerdict mesh first second denial Equal =
    IsGood mesh denial.labelling × FirstIsRight mesh first denial × SecondIsRight mesh second denial × (denial.first ≡ denial.second)
IsDenialVerdict mesh first second denial Accepted = DenialHolds mesh first second denial

-- How a call tells what comes of numbers that are to show whether walks are homologous.
use Rattle.std.specs.Prelude.{◌≡◌, ℕ, ◌==◌, if◌then◌else◌, List, ℤ, Option, Some, None, Result, Ok, Err, MatchResult}
use Rattle.surf_model.specs.FaceLists.{FaceList}
use Rattle.homology.specs.declared.array_check.ArrayVerdict.{ArrayVerdict}
use Rattle.homology.specs.declared.array_check.ArrayVerdict.TheVariants.{Count, Large, Uneven, Judged}
use Rattle.homology.specs.declared.verdict.HomologyVerdict.{HomologyVerdict}
use Rattle.homology.specs.declared.verdict.HomologyVerdict.TheVariants.{Face, Edge, Sum, Zero, Accepted}
use Rattle.homotopy_arrays.specs.HomologyJudgements.{IsVerifyHomologyFault, JudgesNumbers}
use Rattle.homotopy_arrays.specs.declared.fault.Fault.{Fault}
use Rattle.homotopy_arrays.specs.declared.verify_homology.HomologyClaim.{HomologyClaim}
use Rattle.homotopy_arrays.specs.declared.verify_homology.HomologyClaim.TheVariants.{Homologous, NotHomologous}
use Rattle.homotopy_arrays.specs.declared.verify_homology.VerifyHomologyFault.{VerifyHomologyFault}
use Rattle.homotopy_arrays.specs.declared.verify_homology.VerifyHomologyFault.TheVariants.{Mesh, Walks}
use Rattle.homotopy_c.specs.Outcomes.{coded, told_fault, told_walks}
use Rattle.homotopy_c.specs.declared.codes.TheConstants as codes
use Rattle.homotopy_c.specs.declared.outcome.Outcome.{Outcome}

-- what numbers are to show, by the code of the answer
abbrev pub claim_of : (answer : ℕ) → Option HomologyClaim
claim_of answer =
    if answer == codes.HOMOLOGOUS then Some Homologous
    else if answer == codes.NOT_HOMOLOGOUS then Some NotHomologous
    else None

-- the verdict on the chain, or on the cocycle; no face of an array is missing, so the first of these does not come
abbrev pub judged_certificate : HomologyVerdict → Outcome
judged_certificate (Face f) = coded codes.REJECTED_COUNT 0 0 0
judged_certificate (Edge low high) = coded codes.REJECTED_BOUNDARY low.0 high.0 0
judged_certificate (Sum f) = coded codes.REJECTED_SUM f.0 0 0
judged_certificate Zero = coded codes.REJECTED_ZERO 0 0 0
judged_certificate Accepted = coded codes.ACCEPTED 0 0 0

-- the verdict on the array; places are counted from 0
abbrev pub judged_numbers : ArrayVerdict → Outcome
judged_numbers Count = coded codes.REJECTED_COUNT 0 0 0
judged_numbers (Large place) = coded codes.REJECTED_LARGE place 0 0
judged_numbers Uneven = coded codes.REJECTED_UNEVEN 0 0 0
judged_numbers (Judged verdict) = judged_certificate verdict

-- why nothing comes of it
abbrev pub told_verify_homology : VerifyHomologyFault → Outcome
told_verify_homology (Mesh fault) = told_fault fault
told_verify_homology (Walks fault) = told_walks fault

-- how the question ended
abbrev pub ended : Result ArrayVerdict VerifyHomologyFault → Outcome
ended (Ok verdict) = judged_numbers verdict
ended (Err fault) = told_verify_homology fault

-- numbers were judged, and it is told what came of them
pub record AreJudged (read : Result FaceList Fault) (first second : List ℕ) (claim : HomologyClaim) (numbers : List ℤ) (outcome : Outcome)
    : Type 0 where
  pub end : Result ArrayVerdict VerifyHomologyFault
  pub right : MatchResult end (JudgesNumbers read first second claim numbers) (IsVerifyHomologyFault read first second)
  pub tells : outcome ≡ ended end

-- Where the answer is none that numbers can show it is told, and nothing else is looked at. `read` is the mesh that the arrays are, or what
-- is first wrong with them.
pub record IsVerifyHomologyCall (read : Result FaceList Fault) (first second : List ℕ) (answer : ℕ) (numbers : List ℤ) (outcome : Outcome)
    : Type 0 where
  pub known : (claim : HomologyClaim) → claim_of answer ≡ Some claim → AreJudged read first second claim numbers outcome
  pub unknown : claim_of answer ≡ None → outcome ≡ coded codes.UNKNOWN_ANSWER answer 0 0

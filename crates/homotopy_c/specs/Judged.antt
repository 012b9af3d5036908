-- How a call tells what comes of a certificate.
use Rattle.std.specs.Prelude.{◌≡◌, ℕ, List, Result, Ok, Err, MatchResult}
use Rattle.surf_model.specs.FaceLists.{FaceList}
use Rattle.labellings.specs.declared.fault.LabelFault.{LabelFault}
use Rattle.labellings.specs.declared.fault.LabelFault.TheVariants as labels
use Rattle.labellings.specs.declared.verdict.DenialVerdict.{DenialVerdict}
use Rattle.labellings.specs.declared.verdict.DenialVerdict.TheVariants as denials
use Rattle.move_checker.specs.declared.fault.MoveFault.{MoveFault}
use Rattle.move_checker.specs.declared.fault.MoveFault.TheVariants.{Place, NoEdge, NotSpur, NotOnFace, OverPeak}
use Rattle.move_checker.specs.declared.judge.Verdict.{Verdict}
use Rattle.move_checker.specs.declared.judge.Verdict.TheVariants as verdicts
use Rattle.walk_files.specs.declared.fault.CertFault.{CertFault}
use Rattle.walk_files.specs.declared.fault.CertFault.TheVariants as certificates
use Rattle.homotopy_arrays.specs.Judgements.{IsVerifyFault, Judges}
use Rattle.homotopy_arrays.specs.declared.fault.Fault.{Fault}
use Rattle.homotopy_arrays.specs.declared.verify.Judgement.{Judgement}
use Rattle.homotopy_arrays.specs.declared.verify.Judgement.TheVariants.{Moves, Denial}
use Rattle.homotopy_arrays.specs.declared.verify.VerifyFault.{VerifyFault}
use Rattle.homotopy_arrays.specs.declared.verify.VerifyFault.TheVariants.{Mesh, Walks, Long, Certificate}
use Rattle.homotopy_c.specs.Outcomes.{coded, told_fault, told_walks}
use Rattle.homotopy_c.specs.declared.codes.TheConstants as codes
use Rattle.homotopy_c.specs.declared.outcome.Outcome.{Outcome}

-- why a move is refused
abbrev pub move_code : MoveFault → ℕ
move_code Place = codes.REJECTED_MOVE_PLACE
move_code NoEdge = codes.REJECTED_MOVE_EDGE
move_code NotSpur = codes.REJECTED_MOVE_SPUR
move_code NotOnFace = codes.REJECTED_MOVE_FACE
move_code OverPeak = codes.REJECTED_MOVE_PEAK

-- the verdict on a list of moves; moves are counted from 1
abbrev pub judged_moves : Verdict → Outcome
judged_moves verdicts.Accepted = coded codes.ACCEPTED 0 0 0
judged_moves verdicts.Peak = coded codes.REJECTED_PEAK 0 0 0
judged_moves (verdicts.AtMove number fault) = coded (move_code fault) number 0 0
judged_moves verdicts.End = coded codes.REJECTED_END 0 0 0

-- the first rule of good labellings that fails
abbrev pub judged_labels : LabelFault → Outcome
judged_labels labels.Shape = coded codes.REJECTED_SHAPE 0 0 0
judged_labels (labels.Degree degree) = coded codes.REJECTED_DEGREE degree 0 0
judged_labels (labels.PlaceTwice place) = coded codes.REJECTED_PLACE place 0 0
judged_labels (labels.EdgeRule low high) = coded codes.REJECTED_EDGE low.0 high.0 0
judged_labels labels.OutOfMemory = coded codes.NO_MEMORY 0 0 0

-- the verdict on a denial; walks are counted from 1
abbrev pub judged_denial : DenialVerdict → Outcome
judged_denial denials.Accepted = coded codes.ACCEPTED 0 0 0
judged_denial (denials.Label fault) = judged_labels fault
judged_denial (denials.WordWrong walk) = coded codes.REJECTED_WORD walk 0 0
judged_denial denials.Equal = coded codes.REJECTED_EQUAL 0 0 0

abbrev pub judged : Judgement → Outcome
judged (Moves verdict) = judged_moves verdict
judged (Denial verdict) = judged_denial verdict

-- what is first wrong with the text of a certificate, and its line, counted from 1
abbrev pub told_certificate : CertFault → Outcome
told_certificate certificates.NoHead = coded codes.NO_HEAD 0 0 0
told_certificate (certificates.Bad line) = coded codes.BAD_LINE line 0 0
told_certificate (certificates.Ended line) = coded codes.ENDED_EARLY line 0 0
told_certificate (certificates.Extra line) = coded codes.EXTRA_LINE line 0 0
told_certificate (certificates.Peak line) = coded codes.LARGE_PEAK line 0 0
told_certificate certificates.OutOfMemory = coded codes.NO_MEMORY 0 0 0

-- why nothing comes of it
abbrev pub told_verify : VerifyFault → Outcome
told_verify (Mesh fault) = told_fault fault
told_verify (Walks fault) = told_walks fault
told_verify Long = coded codes.LONG_CERTIFICATE 0 0 0
told_verify (Certificate fault) = told_certificate fault

-- how the question ended
abbrev pub ended : Result Judgement VerifyFault → Outcome
ended (Ok judgement) = judged judgement
ended (Err fault) = told_verify fault

-- `read` is the mesh that the arrays are, or what is first wrong with them
pub record IsVerifyCall (read : Result FaceList Fault) (first second certificate : List ℕ) (outcome : Outcome) : Type 0 where
  pub end : Result Judgement VerifyFault
  pub right : MatchResult end (Judges read first second certificate) (IsVerifyFault read first second certificate)
  pub tells : outcome ≡ ended end

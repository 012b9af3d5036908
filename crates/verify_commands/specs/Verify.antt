-- The command `verify`.
use Rattle.std.specs.Prelude.{◌≡◌, ℕ, ◌≤◌, ◌↔◌, List, [], ◌∷◌, codes, decimal, Option}
use Rattle.surf_io.specs.Files.{Files}
use Rattle.surf_model.specs.FaceLists.{FaceList}
use Rattle.surf_model.specs.Moves.{PeakedMoves, Leads, Homotopic, greatest_darts}
use Rattle.move_checker.specs.Verdicts.{verdict_of}
use Rattle.move_checker.specs.declared.fault.MoveFault.{MoveFault}
use Rattle.move_checker.specs.declared.fault.MoveFault.TheVariants.{Place, NoEdge, NotSpur, NotOnFace, OverPeak}
use Rattle.move_checker.specs.declared.judge.Verdict.{Verdict}
use Rattle.move_checker.specs.declared.judge.Verdict.TheVariants as verdicts
use Rattle.labellings.specs.Denials.{DenialHolds}
use Rattle.labellings.specs.declared.denial.Denial as denials
use Rattle.labellings.specs.declared.fault.LabelFault.TheVariants.{Shape, Degree, PlaceTwice, EdgeRule, OutOfMemory}
use Rattle.labellings.specs.DenialVerdicts.{IsDenialVerdict}
use Rattle.labellings.specs.declared.verdict.DenialVerdict.{DenialVerdict}
use Rattle.labellings.specs.declared.verdict.DenialVerdict.TheVariants.{Accepted, Label, WordWrong, Equal}
use Rattle.commands.specs.Answers.{Answer, Texts, NoText, Exactly, IsText}
use Rattle.commands.specs.Checks.{Check, End, Refuse, Pass, pass, without_files, ◌>>=◌}
use Rattle.commands.specs.Inputs.{IsInputWith, mesh_in, pair_in, certificate_in, SpellsCertificate}
use Rattle.surf_model.specs.Walks.{walk_at}
use Rattle.commands.specs.Lines.{line}
use Rattle.commands.specs.declared.certificate.Certificate.{Certificate}
use Rattle.commands.specs.declared.certificate.Certificate.TheVariants.{Moves, Denial}
use Rattle.commands.specs.declared.status.Status.{Status}
use Rattle.commands.specs.declared.status.Status.TheVariants.{Yes, No}

-- ---- what is answered of a verdict

-- why a move is refused, in one word
abbrev pub fault_word : MoveFault → List ℕ
fault_word Place = codes "place"
fault_word NoEdge = codes "edge"
fault_word NotSpur = codes "spur"
fault_word NotOnFace = codes "face"
fault_word OverPeak = codes "peak"

-- the line of a verdict
abbrev pub verdict_line : Verdict → List ℕ
verdict_line verdicts.Accepted = line (codes "accepted") []
verdict_line verdicts.Peak = line (codes "rejected: peak") []
verdict_line (verdicts.AtMove number fault) = line (codes "rejected: move") (decimal number ∷ fault_word fault ∷ [])
verdict_line verdicts.End = line (codes "rejected: end") []

-- yes where the list of moves is accepted
abbrev pub verdict_status : Verdict → Status
verdict_status verdicts.Accepted = Yes
verdict_status verdicts.Peak = No
verdict_status (verdicts.AtMove number fault) = No
verdict_status verdicts.End = No

-- the line of a verdict on a denial; want of memory is no fault of a labelling
abbrev pub denial_line : DenialVerdict → Texts
denial_line Accepted = Exactly (line (codes "accepted") [])
denial_line (Label Shape) = Exactly (line (codes "rejected: shape") [])
denial_line (Label (Degree degree)) = Exactly (line (codes "rejected: degree") (decimal degree ∷ []))
denial_line (Label (PlaceTwice place)) = Exactly (line (codes "rejected: place") (decimal place ∷ []))
denial_line (Label (EdgeRule low high)) = Exactly (line (codes "rejected: edge") (decimal low.0 ∷ decimal high.0 ∷ []))
denial_line (Label OutOfMemory) = NoText
denial_line (WordWrong walk) = Exactly (line (codes "rejected: word") (decimal walk ∷ []))
denial_line Equal = Exactly (line (codes "rejected: equal") [])

-- yes where the denial is accepted
abbrev pub denial_status : DenialVerdict → Status
denial_status Accepted = Yes
denial_status (Label fault) = No
denial_status (WordWrong walk) = No
denial_status Equal = No

-- the answer that a verdict on a list of moves is, and the one that a verdict on a denial is
abbrev pub verdict_answer : Verdict → Answer
verdict_answer verdict = record { status = verdict_status verdict; texts = Exactly (verdict_line verdict) }

abbrev pub denial_answer : DenialVerdict → Answer
denial_answer verdict = record { status = denial_status verdict; texts = denial_line verdict }

-- ---- what the command is for

-- The words are those of `verify`, and the three files that they name are told and stand for a mesh, two walks of it
-- with common ends, and a certificate: a list of moves, or a denial.
abbrev pub IsVerifyInput : Option Files → (words : List (List ℕ)) → FaceList → (first second : List ℕ) → Certificate → Type 0
IsVerifyInput held words mesh first second certificate =
    IsInputWith (codes "verify") (SpellsCertificate certificate) held words mesh first second

-- What `verify` answers of a list of moves: the first reason why it is rejected, with status 1; and `accepted`, with status 0,
-- exactly where the moves lead from the first walk to the second within the declared peak.
pub record IsVerified (held : Option Files) (words : List (List ℕ)) (status : Status) (text : List ℕ) : Type 0 where
  pub judged : (mesh : FaceList) (first second : List ℕ) (list : PeakedMoves) → IsVerifyInput held words mesh first second (Moves list)
      → (status ≡ verdict_status (verdict_of mesh first second list)) × (text ≡ verdict_line (verdict_of mesh first second list))
  pub accepted : (mesh : FaceList) (first second : List ℕ) (list : PeakedMoves) → IsVerifyInput held words mesh first second (Moves list)
      → (status ≡ Yes) ↔ (Leads mesh first list.moves second × (greatest_darts mesh first list.moves ≤ list.peak))

-- What `verify` answers of a denial. Where it is accepted, no list of moves leads from the first walk to the second, whoever made the
-- denial, and on any mesh: it need not be a surface. It is accepted, with status 0, exactly where it holds; and else the first rule of
-- a good labelling that fails is told, or the first wrong word, or that both words are right and equal, with status 1.
pub record IsDenialVerified (held : Option Files) (words : List (List ℕ)) (status : Status) (text : List ℕ) : Type 0 where
  pub different : (mesh : FaceList) (first second : List ℕ) (denial : denials.Denial)
      → IsVerifyInput held words mesh first second (Denial denial) → status ≡ Yes → Homotopic mesh first second → ⊥
  pub accepted : (mesh : FaceList) (first second : List ℕ) (denial : denials.Denial)
      → IsVerifyInput held words mesh first second (Denial denial) → (status ≡ Yes) ↔ DenialHolds mesh first second denial
  pub judged : (mesh : FaceList) (first second : List ℕ) (denial : denials.Denial)
      → IsVerifyInput held words mesh first second (Denial denial)
      → (verdict : DenialVerdict) × IsDenialVerdict mesh first second denial verdict × (status ≡ denial_status verdict)
      × IsText (denial_line verdict) text
  pub exactly : (mesh : FaceList) (first second : List ℕ) (denial : denials.Denial) (verdict : DenialVerdict)
      → IsVerifyInput held words mesh first second (Denial denial) → IsDenialVerdict mesh first second denial verdict
      → (status ≡ denial_status verdict) × IsText (denial_line verdict) text

-- ---- what is looked at, in order

-- the judgement on a certificate: the verdict on a list of moves, or the one that a denial has
abbrev pub judgement : FaceList → List ℕ → List ℕ → Certificate → Check Answer
judgement mesh first second (Moves list) = pass (verdict_answer (verdict_of mesh first second list))
judgement mesh first second (Denial denial) = without_files ends
  where
    ends : End Answer → Type 0
    ends (Refuse texts) = ⊥
    ends (Pass answer) =
        (verdict : DenialVerdict) × (answer ≡ denial_answer verdict) × IsDenialVerdict mesh first second denial verdict

-- the judgement on the certificate in that file
abbrev pub judged_file : Option Files → (certificate : List ℕ) → FaceList → (first second : List ℕ) → Check Answer
judged_file held certificate mesh first second = do
  shown ← certificate_in held certificate
  judgement mesh first second shown

abbrev pub verify : Option Files → (mesh walks certificate : List ℕ) → Check Answer
verify held mesh walks certificate = do
  faces ← mesh_in held mesh
  pair ← pair_in held walks faces
  judged_file held certificate faces (walk_at pair 0) (walk_at pair 1)

-- How the question ends what comes of a certificate.
use Rattle.std.specs.Prelude.{◌≡◌, ◌⊎◌, ℕ, ◌<◌, ◌≤◌, List, length, Some, Result, Ok, Err}
use Rattle.surf_model.specs.FaceLists.{FaceList}
use Rattle.surf_model.specs.declared.moves.Move.{Move}
use Rattle.labellings.specs.DenialVerdicts.{IsDenialVerdict}
use Rattle.move_checker.specs.Verdicts.{verdict_of}
use Rattle.move_checker.specs.declared.judge.Verdict.{Verdict}
use Rattle.walk_files.specs.declared.fault.CertFault.{CertFault}
use Rattle.walk_files.specs.declared.fault.CertFault.TheVariants as certificates
use Rattle.commands.specs.Inputs.{certificate_of}
use Rattle.commands.specs.declared.certificate.Certificate.{Certificate}
use Rattle.commands.specs.declared.certificate.Certificate.TheVariants as shown
use Rattle.commands.specs.declared.inputs.TheConstants.{MOST_BYTES}
use Rattle.homotopy_arrays.specs.Pairs.{AreWalks, two_walks_fault}
use Rattle.homotopy_arrays.specs.Surfaces.{OfMesh}
use Rattle.homotopy_arrays.specs.declared.fault.Fault.{Fault}
use Rattle.homotopy_arrays.specs.declared.fault.Fault.TheVariants.{OutOfMemory}
use Rattle.homotopy_arrays.specs.declared.pair.WalkFault.{WalkFault}
use Rattle.homotopy_arrays.specs.declared.verify.Judgement.{Judgement}
use Rattle.homotopy_arrays.specs.declared.verify.Judgement.TheVariants.{Moves, Denial}
use Rattle.homotopy_arrays.specs.declared.verify.VerifyFault.{VerifyFault}
use Rattle.homotopy_arrays.specs.declared.verify.VerifyFault.TheVariants as faults

-- ---- what is judged

-- the verdict on a list of moves, and the one that a denial has
abbrev pub IsJudgement : FaceList → (first second : List ℕ) → Certificate → Judgement → Type 0
IsJudgement mesh first second (shown.Moves list) (Moves verdict) = verdict ≡ verdict_of mesh first second list
IsJudgement mesh first second (shown.Moves list) (Denial verdict) = ⊥
IsJudgement mesh first second (shown.Denial denial) (Moves verdict) = ⊥
IsJudgement mesh first second (shown.Denial denial) (Denial verdict) = IsDenialVerdict mesh first second denial verdict

-- moves were read, and have this verdict under a peak
abbrev pub IsVerdictOnMoves : FaceList → (first second : List ℕ) → (peak : ℕ) → Result (List Move) CertFault → Verdict → Type 0
IsVerdictOnMoves mesh first second peak read verdict =
    (moves : List Move) × (read ≡ Ok moves) × (verdict ≡ verdict_of mesh first second (record { moves = moves; peak = peak }))

-- the bytes spell a certificate that is judged so
abbrev pub JudgesSpelt : FaceList → (first second certificate : List ℕ) → Judgement → Type 0
JudgesSpelt mesh first second certificate judgement =
    (spelt : Certificate) × (certificate_of certificate ≡ Ok spelt) × IsJudgement mesh first second spelt judgement

-- the bytes are no more than are read, and spell a certificate that is judged so
abbrev pub JudgesText : FaceList → (first second certificate : List ℕ) → Judgement → Type 0
JudgesText mesh first second certificate judgement =
    (length certificate ≤ MOST_BYTES) × JudgesSpelt mesh first second certificate judgement

-- the walks are two walks of the mesh with common ends, and the bytes spell a certificate between them that is judged so
abbrev pub JudgesWalks : FaceList → (first second certificate : List ℕ) → Judgement → Type 0
JudgesWalks mesh first second certificate judgement = AreWalks mesh first second × JudgesText mesh first second certificate judgement

-- `read` is the mesh that arrays are, or what is first wrong with them
abbrev pub Judges : (read : Result FaceList Fault) → (first second certificate : List ℕ) → Judgement → Type 0
Judges read first second certificate judgement = OfMesh read (λ mesh. JudgesWalks mesh first second certificate judgement)

-- ---- what is wrong

abbrev pub no_memory : VerifyFault
no_memory = faults.Mesh OutOfMemory

-- want of memory is no fault of a certificate
abbrev pub of_certificate_fault : CertFault → VerifyFault
of_certificate_fault certificates.NoHead = faults.Certificate certificates.NoHead
of_certificate_fault (certificates.Bad line) = faults.Certificate (certificates.Bad line)
of_certificate_fault (certificates.Ended line) = faults.Certificate (certificates.Ended line)
of_certificate_fault (certificates.Extra line) = faults.Certificate (certificates.Extra line)
of_certificate_fault (certificates.Peak line) = faults.Certificate (certificates.Peak line)
of_certificate_fault certificates.OutOfMemory = no_memory

-- memory is wanting, or this is the first fault of what is read
abbrev pub IsFaultOf : {T : Type 0} → Result T CertFault → VerifyFault → Type 0
IsFaultOf read fault = (fault ≡ no_memory) ⊎ ((first : CertFault) × (read ≡ Err first) × (fault ≡ of_certificate_fault first))

abbrev pub IsFaultOfMoves : Result (List Move) CertFault → VerifyFault → Type 0
IsFaultOfMoves read fault = IsFaultOf read fault

-- the bytes are no certificate, for their first fault
abbrev pub IsFaultOfSpelling : (certificate : List ℕ) → VerifyFault → Type 0
IsFaultOfSpelling certificate fault = IsFaultOf (certificate_of certificate) fault

-- the bytes are too many; or they are not, and are no certificate, for their first fault
abbrev pub IsFaultOfText : (certificate : List ℕ) → VerifyFault → Type 0
IsFaultOfText certificate fault =
    ((MOST_BYTES < length certificate) × (fault ≡ faults.Long))
    ⊎ ((length certificate ≤ MOST_BYTES) × IsFaultOfSpelling certificate fault)

-- memory is wanting; or the walks are not two walks of the mesh with common ends; or they are, and something is wrong with the certificate
abbrev pub IsFaultOfWalks : FaceList → (first second certificate : List ℕ) → VerifyFault → Type 0
IsFaultOfWalks mesh first second certificate fault =
    (fault ≡ no_memory)
    ⊎ (((walks : WalkFault) × (two_walks_fault mesh first second ≡ Some walks) × (AreWalks mesh first second → ⊥)
    × (fault ≡ faults.Walks walks))
    ⊎ (AreWalks mesh first second × IsFaultOfText certificate fault))

-- memory is wanting; or the arrays are no mesh; or they are one, and something is wrong with the walks or the certificate
abbrev pub IsVerifyFault : (read : Result FaceList Fault) → (first second certificate : List ℕ) → VerifyFault → Type 0
IsVerifyFault read first second certificate fault =
    (fault ≡ no_memory)
    ⊎ (((first_fault : Fault) × (read ≡ Err first_fault) × (fault ≡ faults.Mesh first_fault))
    ⊎ OfMesh read (λ mesh. IsFaultOfWalks mesh first second certificate fault))

-- The command `verify-homology`.
use Rattle.std.specs.Prelude.{◌≡◌, ℕ, List, [], ◌∷◌, codes, decimal, Option, Ok}
use Rattle.surf_io.specs.Files.{Files}
use Rattle.surf_model.specs.FaceLists.{FaceList}
use Rattle.homology.specs.Chains.{AreHomologous}
use Rattle.homology.specs.Verdicts.{IsVerdict}
use Rattle.homology.specs.declared.certificate.HomologyCert.{HomologyCert}
use Rattle.homology.specs.declared.certificate.HomologyCert.TheVariants.{Chain, Cocycle}
use Rattle.homology.specs.declared.verdict.HomologyVerdict.{HomologyVerdict}
use Rattle.homology.specs.declared.verdict.HomologyVerdict.TheVariants.{Face, Edge, Sum, Zero, Accepted}
use Rattle.homology_files.specs.HomologyTexts.{cert_of_text}
use Rattle.homology_files.specs.declared.fault.HomologyFault.{HomologyFault}
use Rattle.homology_files.specs.declared.fault.HomologyFault.TheVariants as faults
use Rattle.commands.specs.Answers.{Answer, Texts, NoText, Exactly}
use Rattle.commands.specs.Checks.{Check, End, Refuse, Pass, file, meant, without_files, ◌>>=◌}
use Rattle.commands.specs.Inputs.{IsInputWith, mesh_in, pair_in}
use Rattle.surf_model.specs.Walks.{walk_at}
use Rattle.commands.specs.Lines.{line}
use Rattle.commands.specs.Refusals.{told, told_at}
use Rattle.commands.specs.declared.refusal.Input.TheVariants as inputs
use Rattle.commands.specs.declared.status.Status.{Status}
use Rattle.commands.specs.declared.status.Status.TheVariants.{Yes, No}

-- ---- what is answered of a verdict

-- the line of a verdict
abbrev pub homology_verdict_line : HomologyVerdict → List ℕ
homology_verdict_line (Face face) = line (codes "rejected: face") (decimal face.0 ∷ [])
homology_verdict_line (Edge low high) = line (codes "rejected: edge") (decimal low.0 ∷ decimal high.0 ∷ [])
homology_verdict_line (Sum face) = line (codes "rejected: face") (decimal face.0 ∷ [])
homology_verdict_line Zero = line (codes "rejected: zero") []
homology_verdict_line Accepted = line (codes "accepted") []

-- yes where the certificate is accepted
abbrev pub homology_verdict_status : HomologyVerdict → Status
homology_verdict_status (Face face) = No
homology_verdict_status (Edge low high) = No
homology_verdict_status (Sum face) = No
homology_verdict_status Zero = No
homology_verdict_status Accepted = Yes

-- the answer that a verdict is
abbrev pub homology_verdict_answer : HomologyVerdict → Answer
homology_verdict_answer verdict = record { status = homology_verdict_status verdict; texts = Exactly (homology_verdict_line verdict) }

-- the fault of a certificate
abbrev pub fault_line : HomologyFault → Texts
fault_line faults.NoHead = told (codes "certificate no head" ∷ [])
fault_line (faults.Bad number) = told_at (codes "certificate") number (codes "bad")
fault_line (faults.Ended number) = told_at (codes "certificate") number (codes "ended")
fault_line (faults.Extra number) = told_at (codes "certificate") number (codes "extra")
fault_line faults.OutOfMemory = NoText

-- ---- what the command is for

-- The words are those of `verify-homology`, and the three files that they name are told and stand for a mesh, two walks of it with common
-- ends, and a certificate: a chain, or a cocycle.
abbrev pub IsInput : Option Files → (words : List (List ℕ)) → FaceList → (first second : List ℕ) → HomologyCert → Type 0
IsInput held words mesh first second certificate =
    IsInputWith (codes "verify-homology") (λ bytes. cert_of_text bytes ≡ Ok certificate) held words mesh first second

-- what an accepted certificate shows: a chain that the walks are homologous, a cocycle that they are not
abbrev pub ShownBy : FaceList → List ℕ → List ℕ → HomologyCert → Type 0
ShownBy mesh first second (Chain lines) = AreHomologous mesh first second
ShownBy mesh first second (Cocycle lines) = AreHomologous mesh first second → ⊥

-- What `verify-homology` answers, on any mesh, closed or not: the verdict on the certificate. Where a chain is accepted, whoever made it,
-- the walks are homologous; and where a cocycle is accepted, they are not.
pub record IsHomologyVerified (held : Option Files) (words : List (List ℕ)) (status : Status) (text : List ℕ) : Type 0 where
  pub exactly : (mesh : FaceList) (first second : List ℕ) (certificate : HomologyCert) (verdict : HomologyVerdict)
      → IsInput held words mesh first second certificate → IsVerdict mesh first second certificate verdict
      → (status ≡ homology_verdict_status verdict) × (text ≡ homology_verdict_line verdict)
  pub judged : (mesh : FaceList) (first second : List ℕ) (certificate : HomologyCert) → IsInput held words mesh first second certificate
      → (verdict : HomologyVerdict) × IsVerdict mesh first second certificate verdict × (status ≡ homology_verdict_status verdict)
      × (text ≡ homology_verdict_line verdict)
  pub homologous : (mesh : FaceList) (first second : List ℕ) (certificate : HomologyCert)
      → IsInput held words mesh first second certificate → status ≡ Yes → ShownBy mesh first second certificate

-- ---- what is looked at, in order

-- the certificate that the file spells
abbrev pub homology_certificate_in : Option Files → List ℕ → Check HomologyCert
homology_certificate_in held name = do
  bytes ← file held name inputs.Certificate
  meant fault_line (cert_of_text bytes)

-- the judgement on a certificate: the verdict that it has
abbrev pub homology_judgement : FaceList → List ℕ → List ℕ → HomologyCert → Check Answer
homology_judgement mesh first second certificate = without_files ends
  where
    ends : End Answer → Type 0
    ends (Refuse texts) = ⊥
    ends (Pass answer) =
        (verdict : HomologyVerdict) × (answer ≡ homology_verdict_answer verdict) × IsVerdict mesh first second certificate verdict

abbrev pub verify_homology : Option Files → (mesh walks certificate : List ℕ) → Check Answer
verify_homology held mesh walks certificate = do
  faces ← mesh_in held mesh
  pair ← pair_in held walks faces
  shown ← homology_certificate_in held certificate
  homology_judgement faces (walk_at pair 0) (walk_at pair 1) shown

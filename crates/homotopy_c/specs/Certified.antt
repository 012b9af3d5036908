-- How a call tells a certificate.
use Rattle.std.specs.Prelude.{◌≡◌, ◌⊎◌, ℕ, ◌<◌, ◌≤◌, List, length, Result, Ok, Err, MatchResult}
use Rattle.surf_model.specs.FaceLists.{FaceList}
use Rattle.commands.specs.Certificates.{certificate_text}
use Rattle.commands.specs.declared.certificate.Certificate.{Certificate}
use Rattle.commands.specs.declared.certificate.Certificate.TheVariants.{Moves, Denial}
use Rattle.commands.specs.declared.limits.OverLimit.TheVariants.{Sides, Darts}
use Rattle.homotopy_arrays.specs.Certifications.{Certifies, IsCertifyFault}
use Rattle.homotopy_arrays.specs.declared.certify.CertifyFault.{CertifyFault}
use Rattle.homotopy_arrays.specs.declared.certify.CertifyFault.TheVariants.{Mesh, Walks, Over}
use Rattle.homotopy_arrays.specs.declared.fault.Fault.{Fault}
use Rattle.homotopy_c.specs.Outcomes.{coded, told_fault, told_walks}
use Rattle.homotopy_c.specs.Told.{in_front}
use Rattle.homotopy_c.specs.declared.codes.TheConstants as codes
use Rattle.homotopy_c.specs.declared.outcome.Outcome.{Outcome}

-- the answer that a certificate shows
abbrev pub code_of : Certificate → ℕ
code_of (Moves list) = codes.HOMOTOPIC
code_of (Denial denial) = codes.DIFFERENT

-- why there is none
abbrev pub told_certify : CertifyFault → Outcome
told_certify (Mesh fault) = told_fault fault
told_certify (Walks fault) = told_walks fault
told_certify (Over (Sides sides)) = coded codes.CERTIFY_SIDES sides 0 0
told_certify (Over (Darts darts)) = coded codes.CERTIFY_DARTS darts 0 0

-- The text stands in front of the array, and its answer is told with its length; where there is too little room the array is as it was, and
-- the length that is wanted is told, with the answer.
pub record IsTextPut (text old new : List ℕ) (code : ℕ) (outcome : Outcome) : Type 0 where
  pub room : length text ≤ length old → (new ≡ in_front text old) × (outcome ≡ coded code (length text) 0 0)
  pub short : length old < length text → (new ≡ old) × (outcome ≡ coded codes.SHORT_ROOM (length text) code 0)

-- so it is with the text that the command `certify` prints of a certificate; or memory was wanting for it
abbrev pub IsShownPut : Certificate → (old new : List ℕ) → Outcome → Type 0
IsShownPut shown old new outcome =
    IsTextPut (certificate_text shown) old new (code_of shown) outcome
    ⊎ ((new ≡ old) × (outcome ≡ coded codes.NO_MEMORY 0 0 0))

-- how the question ended is told
abbrev pub TellsCertificate : Result Certificate CertifyFault → (old new : List ℕ) → Outcome → Type 0
TellsCertificate (Ok shown) old new outcome = IsShownPut shown old new outcome
TellsCertificate (Err fault) old new outcome = (new ≡ old) × (outcome ≡ told_certify fault)

-- `read` is the mesh that the arrays are, or what is first wrong with them
pub record IsCertifyCall (read : Result FaceList Fault) (first second old new : List ℕ) (outcome : Outcome) : Type 0 where
  pub end : Result Certificate CertifyFault
  pub right : MatchResult end (Certifies read first second) (IsCertifyFault read first second)
  pub tells : TellsCertificate end old new outcome

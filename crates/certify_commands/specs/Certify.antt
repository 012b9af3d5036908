-- The command `certify`.
use Rattle.std.specs.Prelude.{◌≡◌, ℕ, ◌↔◌, if◌then◌else◌, List, [], ◌∷◌, codes, Option}
use Rattle.surf_io.specs.Files.{Files}
use Rattle.surf_model.specs.FaceLists.{FaceList}
use Rattle.surf_model.specs.Moves as moves
use Rattle.surf_model.specs.Walks.{darts, walk_at}
use Rattle.move_lifting.specs.declared.expanding.TheConstants.{MOST_LIFTED_SIDES, MOST_LIFTED_DARTS}
use Rattle.surf_model.specs.declared.decisions.Answer as deciding
use Rattle.surf_model.specs.declared.decisions.Answer.TheVariants.{Homotopic}
use Rattle.commands.specs.Answers.{Answer, Exactly, OfCertificate}
use Rattle.commands.specs.Certificates.{Convinces, IsPeakLow, IsShortOnSphere, decision_of, decision_status, certificate_text}
use Rattle.commands.specs.Checks.{Check, decided_by, pass_unless, ◌>>=◌}
use Rattle.commands.specs.Inputs.{IsInputOnSurface, pair_in, SpellsPair}
use Rattle.commands.specs.Limits.{FitsLimits, IsRefusedBeyond, limit_line}
use Rattle.surface_commands.specs.SurfaceInput.{surface_in}
use Rattle.commands.specs.declared.certificate.Certificate.{Certificate}
use Rattle.commands.specs.declared.status.Status.{Status}
use Rattle.commands.specs.declared.limits.Limits.{Limits}
use Rattle.commands.specs.declared.status.Status.TheVariants.{Yes}

-- The words are those of `certify`, and the two files that they name are told and stand for an orientable closed surface and
-- two walks of it with common ends.
abbrev pub IsCertifyInput : Option Files → (words : List (List ℕ)) → FaceList → (first second : List ℕ) → Type 0
IsCertifyInput held words mesh first second = IsInputOnSurface (codes "certify") (SpellsPair mesh first second) held words mesh

-- the limits: those of the lists that are made, and the word of a refusal
abbrev pub certify_limits : Limits
certify_limits = record { sides = MOST_LIFTED_SIDES; darts = MOST_LIFTED_DARTS }

abbrev pub limit_word : List ℕ
limit_word = codes "certify"

-- the surface and the walks are not too large
abbrev pub IsWithinLimits : FaceList → (first second : List ℕ) → Type 0
IsWithinLimits mesh first second = FitsLimits certify_limits mesh first second

-- A certificate that convinces, whose peak is low, and that is short on a sphere, is printed behind the decision that it is
-- for, with the status of that decision. That `verify` accepts what is printed is said in `PrintedCertificates`.
pub record IsCertificatePrinted (mesh : FaceList) (first second : List ℕ) (status : Status) (text : List ℕ) : Type 0 where
  pub shown : Certificate
  pub convinces : Convinces mesh first second shown
  pub low : IsPeakLow shown
  pub short : IsShortOnSphere mesh first shown
  pub status_is : status ≡ decision_status (decision_of shown)
  pub text_is : text ≡ certificate_text shown

-- What `certify` answers of such an input, within its limits: a certificate that convinces. It is `homotopic` and a list that leads,
-- with status 0, exactly where some list of moves leads from the first walk to the second; and else `different` and a denial that
-- holds, with status 1. Beyond the limits it is refused: for the sides, and then for the darts.
pub record IsCertified (held : Option Files) (words : List (List ℕ)) (status : Status) (text : List ℕ) : Type 0 where
  pub answered : (mesh : FaceList) (first second : List ℕ) → IsCertifyInput held words mesh first second → IsWithinLimits mesh first second
      → IsCertificatePrinted mesh first second status text
  pub exactly : (mesh : FaceList) (first second : List ℕ) → IsCertifyInput held words mesh first second → IsWithinLimits mesh first second
      → (status ≡ Yes) ↔ moves.Homotopic mesh first second
  pub beyond : IsRefusedBeyond certify_limits limit_word (IsCertifyInput held words) status text

-- ---- what is looked at, in order

-- the refusal of a surface or of walks that are too large
abbrev pub limit_fault : FaceList → (first second : List ℕ) → Option (List ℕ)
limit_fault mesh first second = limit_line certify_limits limit_word mesh first second

-- the answer that a certificate for a decision gives
abbrev pub certificate_answer : FaceList → (first second : List ℕ) → deciding.Answer → Answer
certificate_answer mesh first second decision =
    record { status = decision_status decision; texts = OfCertificate mesh first second decision }

-- the decision on two walks of a mesh, for which a certificate is printed
abbrev pub certified : FaceList → (first second : List ℕ) → Check Answer
certified mesh first second = decided_by Homotopic (certificate_answer mesh first second) (moves.Homotopic mesh first second)

abbrev pub certify : Option Files → (mesh walks : List ℕ) → Check Answer
certify held mesh walks = do
  surface ← surface_in held mesh
  pair ← pair_in held walks surface
  allowed ← pass_unless (λ line. Exactly line) (limit_fault surface (walk_at pair 0) (walk_at pair 1)) pair
  certified surface (walk_at pair 0) (walk_at pair 1)

-- What `certify` prints is, as it is, a certificate that `verify` accepts.
use Rattle.std.specs.Prelude.{◌≡◌, ℕ, List, [], codes, Option}
use Rattle.surf_io.specs.Files.{Files}
use Rattle.surf_model.specs.FaceLists.{FaceList}
use Rattle.commands.specs.Inputs.{IsInputWith, SpellsCertificate}
use Rattle.commands.specs.Lines.{line}
use Rattle.commands.specs.Outcomes.{Outcome, IsAnswerOf}
use Rattle.program.specs.Outcomes.{IsOutcome}
use Rattle.commands.specs.declared.certificate.Certificate.{Certificate}
use Rattle.commands.specs.declared.status.Status.{Status}
use Rattle.commands.specs.declared.status.Status.TheVariants.{Yes}

-- The words are those of `verify`, and the three files that they name are told: the first two stand for the mesh and for two walks of it
-- with common ends, and the third has this text.
abbrev pub IsVerifyOfText : Option Files → (words : List (List ℕ)) → FaceList → (first second text : List ℕ) → Type 0
IsVerifyOfText held words mesh first second text = IsInputWith (codes "verify") (λ bytes. bytes ≡ text) held words mesh first second

-- The text spells the certificate; and what `verify` answers of it, for the same mesh and walks, is `accepted` with status 0.
pub record IsAccepted (mesh : FaceList) (first second : List ℕ) (shown : Certificate) (text : List ℕ) : Type 0 where
  pub spells : SpellsCertificate shown text
  pub accepted : (held : Option Files) (words : List (List ℕ)) (outcome : Outcome) (status : Status) (answer : List ℕ)
      → IsVerifyOfText held words mesh first second text → IsOutcome held words outcome → IsAnswerOf outcome status answer
      → (status ≡ Yes) × (answer ≡ line (codes "accepted") [])

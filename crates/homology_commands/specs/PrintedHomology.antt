-- What `homology` prints is, as it is, a certificate that `verify-homology` accepts.
use Rattle.std.specs.Prelude.{◌≡◌, ℕ, List, [], ◌∷◌, codes, Option, Ok}
use Rattle.surf_io.specs.Files.{Files}
use Rattle.surf_model.specs.FaceLists.{FaceList}
use Rattle.homology.specs.declared.certificate.HomologyCert.{HomologyCert}
use Rattle.homology_files.specs.HomologyTexts.{cert_of_text}
use Rattle.commands.specs.Inputs.{IsInputWith}
use Rattle.commands.specs.Lines.{line}
use Rattle.commands.specs.Outcomes.{AnswersTo}
use Rattle.commands.specs.declared.status.Status.{Status}
use Rattle.commands.specs.declared.status.Status.TheVariants.{Yes}
use Rattle.verify_homology_commands.specs.VerifyHomology.{verify_homology}

-- The words are those of `verify-homology`, and the three files that they name are told: the first two stand for the mesh and for two
-- walks of it with common ends, and the third has this text.
abbrev pub IsHomologyVerifyOfText : Option Files → (words : List (List ℕ)) → FaceList → (first second text : List ℕ) → Type 0
IsHomologyVerifyOfText held words mesh first second text =
    IsInputWith (codes "verify-homology") (λ bytes. bytes ≡ text) held words mesh first second

-- The text spells the certificate; and what `verify-homology` answers of it, for the same mesh and walks, is `accepted` with status 0.
pub record IsHomologyAccepted (mesh : FaceList) (first second : List ℕ) (shown : HomologyCert) (text : List ℕ) : Type 0 where
  pub spells : cert_of_text text ≡ Ok shown
  pub accepted : (held : Option Files) (words : List (List ℕ)) (status : Status) (answer : List ℕ)
      → IsHomologyVerifyOfText held words mesh first second text
      → ((mesh_name walks_name certificate_name : List ℕ)
      → words ≡ codes "verify-homology" ∷ mesh_name ∷ walks_name ∷ certificate_name ∷ []
      → AnswersTo held (verify_homology held mesh_name walks_name certificate_name) status answer)
      → (status ≡ Yes) × (answer ≡ line (codes "accepted") [])

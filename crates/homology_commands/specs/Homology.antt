-- The command `homology`.
use Rattle.std.specs.Prelude.{◌≡◌, ℕ, ◌↔◌, List, codes, Option}
use Rattle.surf_io.specs.Files.{Files}
use Rattle.surf_model.specs.FaceLists.{FaceList}
use Rattle.homology.specs.Chains.{AreHomologous}
use Rattle.homology.specs.declared.certificate.HomologyCert.{HomologyCert}
use Rattle.commands.specs.Answers.{Answer, OfHomology}
use Rattle.commands.specs.Checks.{Check, decided_by, ◌>>=◌}
use Rattle.commands.specs.HomologyCertificates.{HomologyAnswer, Homologous, ShowsHomology, answer_in, homology_status, homology_text}
use Rattle.commands.specs.Inputs.{IsInputOnSurface, pair_in, SpellsPair}
use Rattle.surf_model.specs.Walks.{walk_at}
use Rattle.surface_commands.specs.SurfaceInput.{surface_in}
use Rattle.commands.specs.declared.status.Status.{Status}
use Rattle.commands.specs.declared.status.Status.TheVariants.{Yes}

-- The words are those of `homology`, and the two files that they name are told and stand for an orientable closed surface and two walks
-- of it with common ends.
abbrev pub IsHomologyInput : Option Files → (words : List (List ℕ)) → FaceList → (first second : List ℕ) → Type 0
IsHomologyInput held words mesh first second = IsInputOnSurface (codes "homology") (SpellsPair mesh first second) held words mesh

-- A certificate that shows whether the walks are homologous is printed behind the answer that it is for, with the status of that answer.
pub record IsHomologyPrinted (mesh : FaceList) (first second : List ℕ) (status : Status) (text : List ℕ) : Type 0 where
  pub shown : HomologyCert
  pub shows : ShowsHomology mesh first second shown
  pub status_is : status ≡ homology_status (answer_in shown)
  pub text_is : text ≡ homology_text shown

-- What `homology` answers of such an input: `homologous` and a chain for the walks, with status 0, exactly where they are homologous; and
-- else `not homologous` and a cocycle that separates them, with status 1.
pub record IsHomologyAnswered (held : Option Files) (words : List (List ℕ)) (status : Status) (text : List ℕ) : Type 0 where
  pub answered : (mesh : FaceList) (first second : List ℕ) → IsHomologyInput held words mesh first second
      → IsHomologyPrinted mesh first second status text
  pub exactly : (mesh : FaceList) (first second : List ℕ) → IsHomologyInput held words mesh first second
      → (status ≡ Yes) ↔ AreHomologous mesh first second

-- ---- what is looked at, in order

-- the answer with a certificate that shows it
abbrev pub homology_answer : FaceList → (first second : List ℕ) → HomologyAnswer → Answer
homology_answer mesh first second found = record { status = homology_status found; texts = OfHomology mesh first second found }

-- whether two walks of a mesh are homologous, for which a certificate is printed
abbrev pub homology_shown : FaceList → (first second : List ℕ) → Check Answer
homology_shown mesh first second = decided_by Homologous (homology_answer mesh first second) (AreHomologous mesh first second)

abbrev pub homology : Option Files → (mesh walks : List ℕ) → Check Answer
homology held mesh walks = do
  surface ← surface_in held mesh
  pair ← pair_in held walks surface
  homology_shown surface (walk_at pair 0) (walk_at pair 1)

-- What the program answers: a status, and a text or any of several.
use Rattle.std.specs.Prelude.{◌≡◌, ℕ, ◌≤◌, List, length}
use Rattle.surf_model.specs.FaceLists.{FaceList}
use Rattle.surf_model.specs.Moves.{PeakedMoves}
use Rattle.surf_model.specs.declared.chains.ChainLink.{ChainLink}
use Rattle.surf_model.specs.OddChains.{IsOddChain}
use Rattle.surf_model.specs.declared.decisions.Answer as deciding
use Rattle.homology.specs.declared.certificate.HomologyCert.{HomologyCert}
use Rattle.commands.specs.Certificates.{Convinces, IsShown, decision_of, certificate_text}
use Rattle.commands.specs.HomologyCertificates.{HomologyAnswer, ShowsHomology, answer_in, homology_text}
use Rattle.commands.specs.Lines.{odd_chain_line}
use Rattle.commands.specs.declared.certificate.Certificate.{Certificate}
use Rattle.commands.specs.declared.certificate.Certificate.TheVariants.{Moves}
use Rattle.commands.specs.declared.status.Status.{Status}
use Rattle.commands.specs.declared.status.Status.TheVariants.{Yes}

-- the texts of which one is written
pub data Texts : Type 0 where
  -- none, since want of memory is no fault of an input
  NoText : Texts
  -- this one
  Exactly : List ℕ → Texts
  -- the line of an odd chain of the mesh, of any
  OfOddChain : FaceList → Texts
  -- a certificate for two walks of the mesh and the decision on them, of any that convinces, has no peak that is not read, and on a sphere
  -- is short
  OfCertificate : FaceList → (first second : List ℕ) → deciding.Answer → Texts
  -- a list of moves between two walks of the mesh and its decision, of any that convinces and is short: neither its moves nor its peak
  -- are more than this
  OfShortList : FaceList → (first second : List ℕ) → (most : ℕ) → Texts
  -- the answer whether two walks of the mesh are homologous, and a certificate that shows it, of any
  OfHomology : FaceList → (first second : List ℕ) → HomologyAnswer → Texts

-- the text is one of them
abbrev pub IsText : Texts → List ℕ → Type 0
IsText NoText text = ⊥
IsText (Exactly wanted) text = text ≡ wanted
IsText (OfOddChain mesh) text = (chain : List ChainLink) × IsOddChain mesh chain × (text ≡ odd_chain_line chain)
IsText (OfCertificate mesh first second decision) text =
    (shown : Certificate) × IsShown mesh first second shown × (decision_of shown ≡ decision) × (text ≡ certificate_text shown)
IsText (OfShortList mesh first second most) text =
    (list : PeakedMoves) × Convinces mesh first second (Moves list) × (length list.moves ≤ most) × (list.peak ≤ most)
    × (text ≡ certificate_text (Moves list))
IsText (OfHomology mesh first second answer) text =
    (shown : HomologyCert) × ShowsHomology mesh first second shown × (answer_in shown ≡ answer) × (text ≡ homology_text shown)

-- what is answered where nothing is refused
pub record Answer : Type 0 where
  pub status : Status
  pub texts : Texts

-- yes, or the thing that was asked for, with this text
abbrev pub yes_with : List ℕ → Answer
yes_with text = record { status = Yes; texts = Exactly text }

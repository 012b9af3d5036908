-- The command `certify-open`.
use Rattle.std.specs.Prelude.{◌≡◌, ℕ, ◌≤◌, ◌↔◌, ◌⊎◌, List, length, codes, Option}
use Rattle.surf_io.specs.Files.{Files}
use Rattle.surf_model.specs.FaceLists.{FaceList}
use Rattle.surf_model.specs.Moves as moves
use Rattle.surf_model.specs.Moves.{PeakedMoves}
use Rattle.surf_model.specs.declared.decisions.Answer as deciding
use Rattle.surf_model.specs.declared.decisions.Answer.TheVariants.{Homotopic, Different}
use Rattle.free_forms.specs.PeakedLists.{IsListWithin}
use Rattle.free_forms.specs.declared.limits.TheConstants.{MOST_OPEN_STEPS}
use Rattle.commands.specs.Answers.{Answer, OfShortList}
use Rattle.commands.specs.Certificates.{Convinces, decision_line, certificate_text}
use Rattle.commands.specs.Checks.{Check, decided_by, ◌>>=◌}
use Rattle.commands.specs.Decisions.{decision_answer}
use Rattle.commands.specs.Stops.{bytes_of}
use Rattle.commands.specs.declared.certificate.Certificate.TheVariants.{Moves}
use Rattle.commands.specs.declared.reply.Reply.{Reply}
use Rattle.commands.specs.declared.reply.Reply.TheVariants as replies
use Rattle.commands.specs.declared.status.Status.{Status}
use Rattle.commands.specs.declared.status.Status.TheVariants.{Yes, No}
use Rattle.open_commands.specs.OpenPairs.{IsOpenInput, IsWithinOpenLimits, IsRefusedLarge, open_pair_in}
use Rattle.open_commands.specs.declared.certify_open.TheConstants.{MOST_OPEN_BYTES}

-- Behind the line `homotopic` a list was written, with status 0. It leads from the first walk to the second, its peak is the greatest
-- number of darts among the walks that it passes, and neither its moves nor its peak are more than `MOST_OPEN_STEPS`.
pub record IsListPrinted (mesh : FaceList) (first second : List ℕ) (status : Status) (text : List ℕ) : Type 0 where
  pub list : PeakedMoves
  pub convinces : Convinces mesh first second (Moves list)
  pub within : IsListWithin MOST_OPEN_STEPS list
  pub status_is : status ≡ Yes
  pub text_is : text ≡ certificate_text (Moves list)

-- What `certify-open` answers of an orientable open surface and two walks of it with common ends, within its limits: a list of moves that
-- leads from the first walk to the second, exactly where some list does; and else the line `different` alone, with status 1. Beyond the
-- limits it is refused.
pub record IsCertifiedOpen (held : Option Files) (words : List (List ℕ)) (status : Status) (text : List ℕ) : Type 0 where
  pub answered : (mesh : FaceList) (first second : List ℕ) → IsOpenInput (codes "certify-open") held words mesh first second
      → IsWithinOpenLimits mesh first second
      → IsListPrinted mesh first second status text ⊎ ((status ≡ No) × (text ≡ decision_line Different))
  pub exactly : (mesh : FaceList) (first second : List ℕ) → IsOpenInput (codes "certify-open") held words mesh first second
      → IsWithinOpenLimits mesh first second → (status ≡ Yes) ↔ moves.Homotopic mesh first second
  pub beyond : IsRefusedLarge (codes "certify-open") held words status text

-- the text is that of a list behind its decision: neither its moves nor its peak are more than this, and the text is short enough for
-- `verify`
pub record IsShortText (text : List ℕ) : Type 0 where
  pub list : PeakedMoves
  pub within : IsListWithin MOST_OPEN_STEPS list
  pub text_is : text ≡ certificate_text (Moves list)
  pub short : length text ≤ MOST_OPEN_BYTES

-- where the reply is a list, its text is short
abbrev pub IsShortReply : Reply → Type 0
IsShortReply (replies.Yes text) = IsShortText (bytes_of text)
IsShortReply (replies.No text) = Unit {0}
IsShortReply (replies.Refused text) = Unit {0}

-- ---- what is looked at, in order

-- the answer that a list of moves is, or that there is none
abbrev pub list_answer : FaceList → (first second : List ℕ) → deciding.Answer → Answer
list_answer mesh first second Homotopic = record { status = Yes; texts = OfShortList mesh first second MOST_OPEN_STEPS }
list_answer mesh first second Different = decision_answer Different

-- the decision on two walks of a mesh, with a list of moves where there is one
abbrev pub decided_with_list : FaceList → (first second : List ℕ) → Check Answer
decided_with_list mesh first second = decided_by Homotopic (list_answer mesh first second) (moves.Homotopic mesh first second)

abbrev pub certify_open : Option Files → (mesh walks : List ℕ) → Check Answer
certify_open held mesh walks = do
  asked ← open_pair_in held mesh walks
  decided_with_list asked.mesh asked.first asked.second

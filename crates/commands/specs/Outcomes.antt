-- The outcome of a command, and what answers its check.
use Rattle.std.specs.Prelude.{◌≡◌, ℕ, List, Option}
use Rattle.surf_io.specs.Files.{Files}
use Rattle.commands.specs.Answers.{Answer, Texts, IsText}
use Rattle.commands.specs.Checks.{Check, End, Refuse, Pass, IsTold}
use Rattle.commands.specs.declared.status.Status.{Status}
use Rattle.commands.specs.declared.status.Status.TheVariants.{Refused}

-- the outcome of a run: a refusal, or an answer
abbrev pub Outcome : Type 0
Outcome = End Answer

-- its status
abbrev pub status_of : Outcome → Status
status_of (Refuse texts) = Refused
status_of (Pass answer) = answer.status

-- its texts
abbrev pub texts_of : Outcome → Texts
texts_of (Refuse texts) = texts
texts_of (Pass answer) = answer.texts

-- the status and the text are those of the outcome
pub record IsAnswerOf (outcome : Outcome) (status : Status) (text : List ℕ) : Type 0 where
  pub status_is : status ≡ status_of outcome
  pub text_is : IsText (texts_of outcome) text

-- The status and the text are those of an outcome of the check. Where each file that it looks at is told, they are those of all its
-- outcomes.
pub record AnswersTo (held : Option Files) (check : Check Answer) (status : Status) (text : List ℕ) : Type 0 where
  pub outcome : Outcome
  pub is_outcome : check.Ends outcome
  pub is_answer : IsAnswerOf outcome status text
  pub exact : check.EachFile (IsTold held) → (other : Outcome) → check.Ends other → IsAnswerOf other status text

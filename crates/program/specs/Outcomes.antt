-- The outcome of a list of words, and what is told of a run.
use Rattle.std.specs.Prelude.{ℕ, List, Option}
use Rattle.surf_io.specs.Files.{Files}
use Rattle.commands.specs.Answers.{Answer}
use Rattle.commands.specs.Checks.{Check, found_or, IsTold, ◌>>=◌}
use Rattle.commands.specs.Outcomes.{Outcome, AnswersTo}
use Rattle.commands.specs.Refusals.{wrong_words}
use Rattle.commands.specs.declared.status.Status.{Status}
use Rattle.program.specs.Commands.{IsRow, answer_to}

-- the answer to the words: those that are no row are wrong
abbrev pub answer_of : Option Files → List (List ℕ) → Check Answer
answer_of held words = do
  row ← found_or wrong_words (IsRow words)
  answer_to held row

-- the outcome of the words
abbrev pub IsOutcome : Option Files → List (List ℕ) → Outcome → Type 0
IsOutcome held words outcome = (answer_of held words).Ends outcome

-- each file that the outcome looks at is told
abbrev pub AllTold : Option Files → List (List ℕ) → Type 0
AllTold held words = (answer_of held words).EachFile (IsTold held)

-- the outcome looks at no file
abbrev pub LooksAtNone : Option Files → List (List ℕ) → Type 0
LooksAtNone held words = (answer_of held words).EachFile (λ _. ⊥)

-- The status and the text are those of an outcome of the words. Where each file that is looked at is told, there is no other outcome.
-- What a command is for is said of this by the laws of src/laws.rt, the headline first.
abbrev pub Answers : Option Files → List (List ℕ) → Status → List ℕ → Type 0
Answers held words status text = AnswersTo held (answer_of held words) status text

-- this holds of each answer, whatever the words and the files
abbrev pub EachAnswer : (Option Files → List (List ℕ) → Status → List ℕ → Type 0) → Type 0
EachAnswer Holds = (held : Option Files) (words : List (List ℕ)) (status : Status) (text : List ℕ)
    → Answers held words status text → Holds held words status text

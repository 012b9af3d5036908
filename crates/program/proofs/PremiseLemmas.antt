-- Where an answer comes that is no refusal, the files stand for what it asks of them.
use Rattle.program.proofs.Common.{Answer, Check, Refuse, Pass, Passes, Holds, AnswersTo, IsAnswerOf, Outcome, MOST_BYTES, Status, Refused, ◌≡◌, ℕ, ◌≤◌, List, length, refl, ◌≢◌, Option, Some, None, IsSome, IsSomeAnd, MatchOption, Files, file_of}

-- ---- what passed

-- an answer that is no refusal passed
pub answer_passed : (held : Option Files) (check : Check Answer) (status : Status) (text : List ℕ) → AnswersTo held check status text
    → status ≢ Refused → (answer : Answer) × Passes check answer × (status ≡ answer.status)
answer_passed held check status text told answered = by_outcome told.outcome told.is_outcome told.is_answer
  where
    by_outcome : (outcome : Outcome) → check.Ends outcome → IsAnswerOf outcome status text
        → (answer : Answer) × Passes check answer × (status ≡ answer.status)
    by_outcome (Refuse texts) ends is = absurd (answered is.status_is)
    by_outcome (Pass answer) ends is = (answer, ends, is.status_is)

-- a check of a file that is told, as its bytes end
pub told_check : (P Q : Type 0) (told : Option (List ℕ)) → IsSome told → MatchOption told P (λ _. Q) → Q
told_check P Q (Some f) is p = p
told_check P Q None is p = absurd (let wrong = is in cc)

-- what holds of a file holds of its bytes, and the file has these bytes
pub holds_itself : (held : Option Files) (name : List ℕ) (P : List ℕ → Type 0) → Holds held name P
    → (bytes : List ℕ) × P bytes × Holds held name (λ other. other ≡ bytes)
holds_itself held name P = of_told (file_of held name)
  where
    of_told : (told : Option (List ℕ)) → IsSomeAnd told (λ b. (length b ≤ MOST_BYTES) × P b)
        → (bytes : List ℕ) × P bytes × IsSomeAnd told (λ b. (length b ≤ MOST_BYTES) × (b ≡ bytes))
    of_told (Some bytes) h = (bytes, h.1, (h.0, refl))
    of_told None h = absurd h

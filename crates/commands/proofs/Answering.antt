-- What answers a check, and how a run ended that wrote an answer.
use Rattle.commands.proofs.Common.{Answer, IsText, Check, Refuse, Pass, Passes, pass, ◌>>=◌, Outcome, AnswersTo, IsAnswerOf, Stops, bytes_of, Status, Refused, WriteFault, Stop, ◌≡◌, ◌⊎◌, inl, inr, ℕ, List, refl, sym, subst, Option, Files}
use Rattle.commands.specs.Statuses.{IsAnswered}
use Rattle.commands.specs.declared.text.Text.{Text}
use Rattle.commands.proofs.Sound.{IsSound}
use Rattle.commands.specs.declared.stop.Stop.TheVariants as stops

-- what is answered by an outcome is answered exactly, where the files are told
pub answers : (files : Option Files) (check : Check Answer) (outcome : Outcome) (status : Status) (text : List ℕ) → IsSound files check
    → check.Ends outcome → IsAnswerOf outcome status text → AnswersTo files check status text
answers files check outcome status text sound is answer =
    record {
      outcome = outcome;
      is_outcome = is;
      is_answer = answer;
      exact = λ told other other_is.
          subst (λ (o : Outcome). IsAnswerOf o status text) (sound.one told outcome other is other_is) answer;
    }

-- a thing that passes is answered
pub thing_answers : {T : Type 0} (files : Option Files) (found : Check T) (made : T → Answer) (thing : T) (text : List ℕ)
    → IsSound files (found >>= (λ x. pass (made x))) → Passes found thing → IsText (made thing).texts text
    → AnswersTo files (found >>= (λ x. pass (made x))) (made thing).status text
thing_answers files found made thing text sound p is =
    answers files (found >>= (λ x. pass (made x))) (Pass (made thing)) (made thing).status text sound (inr (thing, p, refl))
    (record { status_is = refl; text_is = is })

-- what stops the first check is answered
pub stop_answers : {T : Type 0} (files : Option Files) (first : Check T) (next : T → Check Answer) (stop : Stop) (text : Text)
    → IsSound files (first >>= next) → stop ≡ stops.Refused text → Stops first stop
    → AnswersTo files (first >>= next) Refused (bytes_of text)
stop_answers files first next stop text sound is h =
    let told : Stops first (stops.Refused text) = subst (Stops first) is h in
    answers files (first >>= next) (Refuse told.0) Refused (bytes_of text) sound (inl (told.0, told.1, refl))
    (record { status_is = refl; text_is = told.2 })

-- ---- what was written

-- a status that tells of an answer is the one that was to be told
told_status : (status wanted : Status) → IsAnswered status → (status ≡ wanted) ⊎ (status ≡ WriteFault) → status ≡ wanted
told_status status wanted answered (inl e) = e
told_status status wanted (inl a) (inr e) = cc
told_status status wanted (inr (inl a)) (inr e) = cc
told_status status wanted (inr (inr a)) (inr e) = cc

-- the answer, with the status; what was written of it is told of its text
pub wrote_all : {files : Option Files} {check : Check Answer} {status wanted : Status} {text : List ℕ} (Wrote : List ℕ → Type 0)
    → AnswersTo files check wanted text → (status ≡ wanted) ⊎ (status ≡ WriteFault) → (IsAnswered status → Wrote text) → IsAnswered status
    → (told : List ℕ) × AnswersTo files check status told × Wrote told
wrote_all {files} {check} {status} {wanted} {text} Wrote answer either wrote answered = (
  text,
  subst (λ (s : Status). AnswersTo files check s text) (sym (told_status status wanted answered either)) answer,
  wrote answered,
)

-- a part of the answer
pub wrote_part : {files : Option Files} {check : Check Answer} {status wanted : Status} {text : List ℕ} (Wrote : List ℕ → Type 0)
    → AnswersTo files check wanted text → (status ≡ WriteFault → Wrote text) → status ≡ WriteFault
    → (other : Status) × (told : List ℕ) × AnswersTo files check other told × Wrote told
wrote_part {files} {check} {status} {wanted} {text} Wrote answer wrote e = (wanted, text, answer, wrote e)

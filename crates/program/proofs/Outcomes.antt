-- The outcome of a list of words, and what is told of a run.
use Rattle.program.proofs.Common.{answers, stops_next, told_stops, Refuse, Pass, found_or, wrong_words, Replies, reply_status, reply_text, Runs, IsAnswered, Stops, Tells, Reply, Row, IsRow, answer_to, answer_of, Answers, inl, inr, ℕ, List, refl, Option, Result, Ok, Err, MatchResult, Files}
use Rattle.commands.specs.declared.stop.Stop.{Stop}
use Rattle.commands.specs.declared.text.Text.{Text}
use Rattle.commands.specs.declared.reply.Reply.TheVariants as replies
use Rattle.commands.specs.declared.stop.Stop.TheVariants as stops
use Rattle.program.proofs.Rows.{sound-words}

-- ---- the reply

pub reply_answers : (files : Option Files) (words : List (List ℕ)) (reply : Reply) → Replies (answer_of files words) reply
    → Answers files words (reply_status reply) (reply_text reply)
reply_answers files words reply found =
    answers files (answer_of files words) (Pass found.answer) (reply_status reply) (reply_text reply) (sound-words files words) found.passes
    found.is_answer

pub refusal_answers : (files : Option Files) (words : List (List ℕ)) (text : Text) → Stops (answer_of files words) (stops.Refused text)
    → Answers files words (reply_status (replies.Refused text)) (reply_text (replies.Refused text))
refusal_answers files words text h =
    answers files (answer_of files words) (Refuse h.0) (reply_status (replies.Refused text)) (reply_text (replies.Refused text))
    (sound-words files words) h.1 (record { status_is = refl; text_is = h.2 })

-- ---- the reply to a list of words

-- words that are no row
pub wrong_stops : (files : Option Files) (words : List (List ℕ)) (stop : Stop) → ((row : Row) → IsRow words row → ⊥)
    → Tells wrong_words stop
    → Stops (answer_of files words) stop
wrong_stops files words stop none h =
    told_stops wrong_words (answer_of files words) stop (inl (wrong_words, (none, refl), refl)) h

-- words that are a row: the reply is the one to the row
pub row_runs : {X : Type 0} (held : X → Option Files) (faults : X → ℕ) (old new : X) (words : List (List ℕ)) (row : Row)
    (result : Result Reply Stop) → IsRow words row → Runs held faults old new (λ files. answer_to files row) result
    → Runs held faults old new (λ files. answer_of files words) result
row_runs held faults old new words row result is h =
    record {
      end = row_end (held old) words row result is h.end;
      fault = h.fault;
      untouched = λ none. h.untouched (none.1 row is);
      only_reads = h.only_reads;
    }
  where
    row_end : (files : Option Files) (words : List (List ℕ)) (row : Row) (result : Result Reply Stop) → IsRow words row
        → MatchResult result (Replies (answer_to files row)) (Stops (answer_to files row))
        → MatchResult result (Replies (answer_of files words)) (Stops (answer_of files words))
    row_end files words row (Ok reply) is h = record { answer = h.answer; passes = inr (row, is, h.passes); is_answer = h.is_answer }
    row_end files words row (Err stop) is h = stops_next (found_or wrong_words (IsRow words)) (answer_to files) row stop is h

-- ---- the status of a run

pub is_answered : (reply : Reply) → IsAnswered (reply_status reply)
is_answered (replies.Yes text) = inl refl
is_answered (replies.No text) = inr (inl refl)
is_answered (replies.Refused text) = inr (inr refl)

use Rattle.program.proofs.Common.{wrote_all, wrote_part, reply_status, reply_text, IsAnswered, Stops, texts, Reply, OutOfMemory, Answers, answer_of, ◌≡◌, ◌⊎◌, inl, inr, sym, subst}
use Rattle.program.proofs.Outcomes.{reply_answers, refusal_answers, is_answered}
use Rattle.program.proofs.top.run.Given as given
use Rattle.program.proofs.top.run.Goals as goal
use Rattle.program.proofs.top.run.Goals.{in-Ok, in-Err-Refused}

-- the reply answers the words
all : (g : given.Over) (c : goal.After-give g)
    → Answers (g.S.Shelf.held c.args.shelf.now) (texts c.args.words.now.items) (reply_status c.match-find_answer.reply)
    (reply_text c.match-find_answer.reply)
all g c =
    let files = g.S.Shelf.held c.args.shelf.now in
    let words = texts c.args.words.now.items in
    elim c.match-find_answer.branch [
      | in-Ok w ↦
          subst (λ (r : Reply). Answers files words (reply_status r) (reply_text r)) (sym w.reply-is)
          (reply_answers files words w.in-Ok.reply w.in-Ok.ensures.end)
      | in-Err-Refused w ↦
          subst (λ (r : Reply). Answers files words (reply_status r) (reply_text r)) (sym w.reply-is)
          (refusal_answers files words w.in-Err-Refused.text
          (subst (Stops (answer_of files words)) w.in-Err-Refused.field-0-is w.in-Err-Refused.ensures.end))
    ]

pub returns-clause-answered : goal.returns-clause-answered
returns-clause-answered g c = wrote_all _ (all g c) c.give.ensures.either c.give.ensures.written

pub returns-clause-write_fault : goal.returns-clause-write_fault
returns-clause-write_fault g c = wrote_part _ (all g c) c.give.ensures.write_fault

pub returns-clause-complete : goal.returns-clause-complete
returns-clause-complete g c = λ reads writes.
    elim c.give.ensures.either as (λ _. IsAnswered c.give.result ⊎ (c.give.result ≡ OutOfMemory)) [
      | inl e ↦ inl (subst IsAnswered (sym e) (is_answered c.match-find_answer.reply))
      | inr e ↦ absurd (writes (c.give.ensures.write_fault e).fault)
    ]

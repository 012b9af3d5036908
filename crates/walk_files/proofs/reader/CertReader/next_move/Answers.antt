use Rattle.walk_files.proofs.Common.{◌≡◌, ◌+◌, ◌<◌, drop, refl, ap, ◌∙◌, drop-drop, arith, rules, Ok, Some, full_lines, lines_left, behind_head, Certificate, next_answer, after_answer}
use Rattle.walk_files.proofs.ReaderLemmas.{left_after}
use Rattle.walk_files.proofs.reader.CertReader.next_move.Goals as goal

pub overflow_add-self : goal.overflow_add-self
overflow_add-self c =
    let some : 0 < c.saturating_sub-to_come.result = (rw c.in-Ok-Some.field-0-is at c.in-Ok-Some.ensures.some) refl in
    omega (arith, some)

pub invariant_of-self : goal.invariant_of-self
invariant_of-self c =
    let place : lines_left c.read_next.new.cursor ≡ drop 1 (lines_left c.self.inside.cursor) = c.in-Ok-Some.ensures.place in
    record {
      lines = λ undenied none. place ∙ ap (drop 1) (c.self.invariant.lines undenied none)
          ∙ drop-drop 1 c.self.inside.given (behind_head (full_lines c.self.inside.text.now));
      end = c.read_next.ensures.end ∙ c.self.invariant.end;
      denial = c.self.invariant.denial;
    }

pub returns-in-Ok-Some-clause-left : goal.returns-in-Ok-Some-clause-left
returns-in-Ok-Some-clause-left c =
    let i = c.self.inside in
    let new : Certificate = record { text = i.text.now; head = i.head; given = i.given + 1; denied = i.denied; refusal = i.refusal } in
    let answer : Ok (Some c.in-Ok-Some.mv) ≡ next_answer c.args.self.now = search rules in
    let after : new ≡ after_answer c.args.self.now (Ok (Some c.in-Ok-Some.mv)) =
    ap (λ (r : Certificate). let s : Certificate = record r { given = r.given + 1 } in s) c.self.view_is in
    left_after c.args.self.now new (Ok (Some c.in-Ok-Some.mv)) answer after

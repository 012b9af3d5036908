use Rattle.off_reader.proofs.Common.{sym, ap, ◌∙◌, is_number_text, Unread}
use Rattle.off_reader.proofs.RingLemmas.{one_read, next_text, bad_point}
use Rattle.off_reader.proofs.mesh.pass_point.Goals as goal

pub returns-then-not-number_text-clause-fault : goal.returns-then-not-number_text-clause-fault
returns-then-not-number_text-clause-fault c =
    bad_point c.args.coordinates c.loop.counter c.line.result c.args.cursor.now c.loop.cursor c.loop-test.true
    c.if-not-number_text.ensures.answer
    (c.line.ensures ∙ ap (λ (u : Unread). u.line) c.if-not-number_text.ensures.place) c.loop.invariant

pub loop-preserved : goal.loop-preserved
loop-preserved c =
    one_read is_number_text c.args.cursor.now c.loop.cursor c.number_text.new.self c.loop.counter
    (sym (c.if-not-number_text.ensures.answer ∙ next_text c.loop.cursor.words))
    c.if-not-number_text.ensures.place c.loop.invariant

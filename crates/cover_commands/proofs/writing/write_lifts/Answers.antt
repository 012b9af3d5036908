use Rattle.cover_commands.proofs.Common.{wrote_all, wrote_part, seen_lifts}
use Rattle.cover_commands.proofs.CoverChecks.{lifts_answers, lift_refusal_answers}
use Rattle.cover_commands.proofs.writing.write_lifts.Goals as goal

pub returns-in-Ok-clause-answered : goal.returns-in-Ok-clause-answered
returns-in-Ok-clause-answered g c =
    wrote_all _
    (lifts_answers (g.S.Shelf.held c.args.shelf.now) c.args.mesh.now c.args.walks.now (seen_lifts c.in-Ok.lifts) c.in-Ok.ensures.end)
    c.give_lifts.ensures.either c.give_lifts.ensures.written

pub returns-in-Ok-clause-write_fault : goal.returns-in-Ok-clause-write_fault
returns-in-Ok-clause-write_fault g c =
    wrote_part _
    (lifts_answers (g.S.Shelf.held c.args.shelf.now) c.args.mesh.now c.args.walks.now (seen_lifts c.in-Ok.lifts) c.in-Ok.ensures.end)
    c.give_lifts.ensures.write_fault

pub returns-in-Err-Refused-clause-answered : goal.returns-in-Err-Refused-clause-answered
returns-in-Err-Refused-clause-answered g c =
    let refused = c.in-Err-Refused in
    wrote_all _
    (lift_refusal_answers (g.S.Shelf.held c.args.shelf.now) c.args.mesh.now c.args.walks.now _ refused.text refused.field-0-is
    refused.ensures.end)
    c.give.ensures.either c.give.ensures.written

pub returns-in-Err-Refused-clause-write_fault : goal.returns-in-Err-Refused-clause-write_fault
returns-in-Err-Refused-clause-write_fault g c =
    let refused = c.in-Err-Refused in
    wrote_part _
    (lift_refusal_answers (g.S.Shelf.held c.args.shelf.now) c.args.mesh.now c.args.walks.now _ refused.text refused.field-0-is
    refused.ensures.end)
    c.give.ensures.write_fault

use Rattle.commands.proofs.Answering.{wrote_all, wrote_part}
use Rattle.double_commands.proofs.DoubleChecks.{mesh_answers, refusal_answers}
use Rattle.double_commands.proofs.writing.write_double.Goals as goal

pub returns-in-Ok-clause-answered : goal.returns-in-Ok-clause-answered
returns-in-Ok-clause-answered g c =
    wrote_all _ (mesh_answers (g.S.Shelf.held c.args.shelf.now) c.args.name.now c.in-Ok.double c.in-Ok.ensures.end)
    c.give_mesh.ensures.either c.give_mesh.ensures.written

pub returns-in-Ok-clause-write_fault : goal.returns-in-Ok-clause-write_fault
returns-in-Ok-clause-write_fault g c =
    wrote_part _ (mesh_answers (g.S.Shelf.held c.args.shelf.now) c.args.name.now c.in-Ok.double c.in-Ok.ensures.end)
    c.give_mesh.ensures.write_fault

pub returns-in-Err-Refused-clause-answered : goal.returns-in-Err-Refused-clause-answered
returns-in-Err-Refused-clause-answered g c =
    let refused = c.in-Err-Refused in
    wrote_all _ (refusal_answers (g.S.Shelf.held c.args.shelf.now) c.args.name.now _ refused.text refused.field-0-is refused.ensures.end)
    c.give.ensures.either c.give.ensures.written

pub returns-in-Err-Refused-clause-write_fault : goal.returns-in-Err-Refused-clause-write_fault
returns-in-Err-Refused-clause-write_fault g c =
    let refused = c.in-Err-Refused in
    wrote_part _ (refusal_answers (g.S.Shelf.held c.args.shelf.now) c.args.name.now _ refused.text refused.field-0-is refused.ensures.end)
    c.give.ensures.write_fault

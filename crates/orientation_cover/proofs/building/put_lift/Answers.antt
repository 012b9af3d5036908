use Rattle.orientation_cover.proofs.Common.{length-lifted, over, corner_more, with_face, ℕ, sym, ap, ◌∙◌, arith, common_steps, PendingFace, face_at}
use Rattle.std.proofs.lemmas.Result.{on_ok_weaker}
use Rattle.orientation_cover.proofs.CoverLemmas.{turning, lift_of_face, corner_is, lift_closes}
use Rattle.orientation_cover.proofs.building.put_lift.Goals as goal

pub against-first-requires-clause-corner : goal.against-first-requires-clause-corner
against-first-requires-clause-corner c = grind arith

pub loop-at-preserved : goal.loop-at-preserved
loop-at-preserved c =
    let mesh = c.args.faces.now in
    let bits = c.args.ways.now in
    let ring = face_at mesh c.args.face.0 in
    let within = length-lifted (turning mesh bits) mesh.count c.args.upper ring in
    let sheet : ℕ → ℕ = λ n. over n c.differ.result c.corner-vertex.result.0 in
    corner_more c.loop-at.cover c.args.cover.now c.push.new.self (lift_of_face mesh bits c.args.upper c.args.face.0) c.loop-at.at
    c.over.result c.loop-at.invariant c.in_ok-push.ensures.ok (omega (arith, within, c.sides-at-end.ensures))
    (corner_is mesh bits c.args.upper c.differ-turned.result c.differ.result c.against-first.result c.against.result c.args.face.0
    c.loop-at.at c.corner-vertex.result.0 c.len.ensures.valid c.requires.ways c.requires.face (omega (arith, c.sides-at-end.ensures))
    c.against-first.ensures c.against.ensures c.differ-turned.ensures c.differ.ensures c.corner-vertex.ensures
    ∙ ap sheet (sym c.count.ensures.count) ∙ sym c.over.ensures)

pub close_face-requires : goal.close_face-requires
close_face-requires c =
    (lift_closes c.args.faces.now c.args.ways.now c.args.upper c.args.face.0 c.loop-at.at c.loop-at.cover c.args.cover.now
    c.len.ensures.valid c.requires.face c.requires.count c.loop-at.invariant (omega (arith, c.sides-at-end.ensures))).1

pub returns-clause-put : goal.returns-clause-put
returns-clause-put c =
    let mesh = c.args.faces.now in
    let whole = (lift_closes mesh c.args.ways.now c.args.upper c.args.face.0 c.loop-at.at c.loop-at.cover c.args.cover.now
    c.len.ensures.valid c.requires.face c.requires.count c.loop-at.invariant (omega (arith, c.sides-at-end.ensures))).0 in
    on_ok_weaker c.close_face.result
    (λ put. put ∙ ap (λ (p : PendingFace). with_face p p.pending) whole)
    c.close_face.ensures.put

pub returns-clause-fault : goal.returns-clause-fault
returns-clause-fault c = grind (arith, common_steps, lift_closes, turning)

use Rattle.orientation_cover.proofs.Common.{length-lifted, over, HasNoRoom, cover_by, ◌<◌, ℕ, length, ap, sym, ◌∙◌, arith, rules, common_steps, face_at, total_sides}
use Rattle.orientation_cover.proofs.CoverLemmas.{turning, over_next, in_cover, face_in_cover, faces_more, no_room}
use Rattle.orientation_cover.proofs.building.put_sheet.Goals as goal

pub returns-in_err-put_lift-clause-fault : goal.returns-in_err-put_lift-clause-fault
returns-in_err-put_lift-clause-fault c =
    let mesh = c.args.faces.now in
    let bits = c.args.ways.now in
    let upper = c.args.upper in
    let f : ℕ = c.loop-face.face in
    let within : f < length mesh.faces = omega (arith, c.len-face-end.ensures.count) in
    let h : HasNoRoom (total_sides (cover_by mesh bits)) c.in_err-put_lift.field-0.0 =
    no_room (cover_by mesh bits) c.loop-face.cover (over (length mesh.faces) upper f) (length (face_at mesh f)) c.in_err-put_lift.field-0.0
    c.loop-face.invariant (in_cover mesh bits upper f within)
    (sym (ap length (face_in_cover mesh bits upper f within) ∙ length-lifted (turning mesh bits) mesh.count upper (face_at mesh f)))
    c.in_err-put_lift.ensures.fault in
    search rules

pub loop-face-preserved : goal.loop-face-preserved
loop-face-preserved c = grind (arith, common_steps, faces_more, over, in_cover, face_in_cover, over_next)

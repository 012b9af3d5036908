use Rattle.move_lifting.proofs.Common.{◌≡◌, ◌+◌, ◌-◌, length, arith, face_at}
use Rattle.move_lifting.proofs.CrossingLemmas.{come_long}
use Rattle.move_lifting.proofs.expanding.cross.Goals as goal
use Rattle.move_lifting.proofs.expanding.cross.Goals.{In_ok-push_rest}

-- the rest of the face is pending too
come : (c : In_ok-push_rest)
    → length c.push_rest.new.vertices.items
    ≡ length c.args.pending.now.items + (length (face_at c.args.faces.now c.args.step.face.0) - 1)
come c = come_long c.args.faces.now c.args.step c.args.pending.now.items c.push_rest.new.vertices.items c.in_ok-push_rest.ensures

pub overflow_cast-len : goal.overflow_cast-len
overflow_cast-len c = omega (arith, c.len.ensures, c.requires.room, come (goal.at.overflow_cast-len c).In_ok-push_rest)

pub overflow_add-len : goal.overflow_add-len
overflow_add-len c = omega (arith, c.len.ensures, c.requires.room, come (goal.at.overflow_add-len c).In_ok-push_rest)

pub note-requires : goal.note-requires
note-requires c = omega (arith, c.len.ensures, c.requires.room, come (goal.at.note-requires c).In_ok-push_rest)

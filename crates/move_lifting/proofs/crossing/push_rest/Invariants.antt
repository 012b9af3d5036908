use Rattle.move_lifting.proofs.Common.{◌≡◌, ◌++◌, length, corner_after, corners_before, face_at, next_corner, numbers}
use Rattle.move_lifting.proofs.crossing.push_rest.Given as goal

abbrev pub invariant-loop-count : goal.invariant-loop-count
invariant-loop-count l = record {
  here : l.corner ≡ corner_after l.step.forward (length (face_at l.faces l.step.face.0)) l.step.corner l._count;
  pushed : numbers l.vertices.items ≡ numbers l.initial.vertices.items
      ++ corners_before (face_at l.faces l.step.face.0) l.step.forward
      (next_corner l.step.forward (length (face_at l.faces l.step.face.0)) l.step.corner) l._count;
}

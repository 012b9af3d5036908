use Rattle.free_forms.proofs.Common.{◌≡◌, ◌-◌, ◌<◌, ◌++◌, length, corner_after, face_at, numbers, vertices_beyond}
use Rattle.free_forms.proofs.reduction.push_others.Given as goal

abbrev pub invariant-loop-step : goal.invariant-loop-step
invariant-loop-step l = record {
  pushed : numbers l.pending.items
      ≡ numbers l.initial.pending.items ++ vertices_beyond (face_at l.faces l.face.0) l.forward l.corner (l._step - 1);
  here : l.at ≡ corner_after l.forward (length (face_at l.faces l.face.0)) l.corner (l._step - 1);
  within : l.at < length (face_at l.faces l.face.0);
}

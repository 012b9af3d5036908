use Rattle.move_lifting.proofs.Common.{◌≡◌, inl, inr, true, length, refl, ap, ◌∙◌, subst, IsSide, side_number, FaceList, face_at, next_corner, is_flipped}
use Rattle.move_lifting.proofs.LastLoopLemmas.{step_is_from}
use Rattle.move_lifting.proofs.last_loop.step_from.Goals.{then-flipped, else-flipped}
use Rattle.move_lifting.proofs.last_loop.step_from.Goals as goal

pub returns-clause-step : goal.returns-clause-step
returns-clause-step c =
    let s = c.args.surface.now in
    let side = c.side_at-side.result in
    let mesh = c.faces-faces.ensures.mesh in
    step_is_from s c.args.dart.0 side c.args.back c.flipped-flipped.result
    (record { face = side.face; corner = c.if-flipped.corner; forward = _ })
    (subst (λ (m : FaceList). IsSide m side) mesh c.side_at-side.ensures.side)
    (subst (λ (m : FaceList). side_number m side ≡ c.args.dart.0) mesh c.side_at-side.ensures.number) refl
    (c.flipped-flipped.ensures ∙ ap (λ signs. is_flipped signs side.face.0) c.signs.ensures)
    (elim c.if-flipped.branch [
      | then-flipped w ↦
          inl (
            w.if-flipped.true,
            w.corner-is ∙ w.corner_after-corner.ensures.corner ∙ ap (λ n. next_corner true n side.at) w.sides.ensures
                ∙ ap (λ (m : FaceList). next_corner true (length (face_at m side.face.0)) side.at) mesh,
          )
      | else-flipped w ↦ inr (w.if-flipped.false, w.corner-is)
    ])
    refl

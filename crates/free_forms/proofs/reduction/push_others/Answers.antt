use Rattle.free_forms.proofs.Common.{◌≡◌, ℕ, suc, ◌+◌, ◌-◌, List, [], ◌∷◌, ◌++◌, length, get_or, ap, sym, ◌∙◌, arith, append_assoc, map-append, corner_after, face_at, numbers, VertexName, beyond_more, after_more, vertices_beyond}
use Rattle.free_forms.proofs.reduction.push_others.Goals as goal

pub loop-step-preserved : goal.loop-step-preserved
loop-step-preserved c =
    let ring : List ℕ = face_at c.args.faces.now c.args.face.0 in
    let m : ℕ = length ring in
    let k : ℕ = c.loop-step._step - 1 in
    let up : c.loop-step._step + 1 - 1 ≡ suc k = omega (arith, c.loop-step.auto._step) in
    let size : c.sides-size.result ≡ m = c.sides-size.ensures in
    let here : c.corner_after-at.result ≡ corner_after c.args.forward m c.args.corner (suc k) = grind (arith, after_more) in
    let vertex : c.corner.result.0 ≡ get_or ring (corner_after c.args.forward m c.args.corner (suc k)) 0 =
    c.corner.ensures ∙ ap (λ (t : ℕ). get_or ring t 0) here in
    record {
      pushed =
          ap numbers c.in_ok-push.ensures.items
          ∙ map-append (λ (v : VertexName). v.0) c.loop-step.pending.items (c.corner.result ∷ [])
          ∙ ap (λ (w : List ℕ). w ++ c.corner.result.0 ∷ []) c.loop-step.invariant.pushed
          ∙ append_assoc (numbers c.args.pending.now.items) (vertices_beyond ring c.args.forward c.args.corner k) (c.corner.result.0 ∷ [])
          ∙ ap (λ (x : ℕ). numbers c.args.pending.now.items ++ (vertices_beyond ring c.args.forward c.args.corner k ++ x ∷ [])) vertex
          ∙ ap (λ (w : List ℕ). numbers c.args.pending.now.items ++ w) (sym (beyond_more ring c.args.forward c.args.corner k))
          ∙ ap (λ (n : ℕ). numbers c.args.pending.now.items ++ vertices_beyond ring c.args.forward c.args.corner n) (sym up);
      here = here ∙ ap (corner_after c.args.forward m c.args.corner) (sym up);
      within = omega (arith, c.corner_after-at.ensures.within, size);
    }

use Rattle.move_lifting.proofs.Common.{◌≡◌, ℕ, ◌+◌, ◌-◌, ◌<◌, true, List, length, get_or, ap, sym, ◌∙◌, subst, arith, get_or-map, FaceList, is_edge, numbers, VertexName}
use Rattle.move_lifting.proofs.ExpandLemmas.{length-numbers}
use Rattle.move_lifting.proofs.passing.least_depth.Goals as goal

pub face_below-requires-clause-edge : goal.face_below-requires-clause-edge
face_below-requires-clause-edge c =
    let mesh : FaceList = c.args.on.now.surface.now.mesh in
    let walk : List ℕ = numbers c.args.walk.now in
    let n : ℕ = c.loop-place.place in
    let long : length walk ≡ length c.args.walk.now = length-numbers c.args.walk.now in
    let within : n < length c.args.walk.now = omega (arith, c.loop-place-test.true) in
    let before : n - 1 < length c.args.walk.now = omega arith in
    let next : n - 1 + 1 ≡ n = omega (arith, c.loop-place.auto.place) in
    let edge : is_edge mesh (get_or walk (n - 1) 0) (get_or walk n 0) ≡ true =
    subst (λ (k : ℕ). is_edge mesh (get_or walk (n - 1) 0) (get_or walk k 0) ≡ true) next
    (c.requires.walk.edges (n - 1) (omega (arith, c.loop-place.auto.place))) in
    let none : VertexName = record { 0 = 0 } in
    ap (λ (x : ℕ). is_edge mesh x (get_or c.args.walk.now n none).0)
    (sym (get_or-map (λ (x : VertexName). x.0) c.args.walk.now (n - 1) none 0 before))
    ∙ ap (is_edge mesh (get_or walk (n - 1) 0)) (sym (get_or-map (λ (x : VertexName). x.0) c.args.walk.now n none 0 within)) ∙ edge

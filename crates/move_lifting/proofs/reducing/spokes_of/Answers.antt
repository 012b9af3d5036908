use Rattle.move_lifting.proofs.Common.{◌≡◌, ℕ, ◌+◌, ◌-◌, ◌<◌, true, List, length, get_or, ap, sym, ◌∙◌, subst, arith, common_steps, get_or-map, is_edge, numbers, VertexName}
use Rattle.move_lifting.proofs.ExpandLemmas.{length-numbers}
use Rattle.move_lifting.proofs.ReductionLemmas.{more_so_far, all_spokes}
use Rattle.move_lifting.proofs.reducing.spokes_of.Goals as goal

pub push_spokes-requires-clause-edge : goal.push_spokes-requires-clause-edge
push_spokes-requires-clause-edge c =
    let walk : List ℕ = numbers c.args.walk.now in
    let n : ℕ = c.loop-place.place in
    let none : VertexName = record { 0 = 0 } in
    let long : length walk ≡ length c.args.walk.now = length-numbers c.args.walk.now in
    let within : n < length c.args.walk.now = omega (arith, c.loop-place-test.true) in
    let next : n - 1 + 1 ≡ n = omega (arith, c.loop-place.auto.place) in
    let before : n - 1 < length walk - 1 = omega (arith, c.loop-place.auto.place) in
    let edge : is_edge c.args.surface.now.mesh (get_or walk (n - 1) 0) (get_or walk n 0) ≡ true =
    subst (λ (k : ℕ). is_edge c.args.surface.now.mesh (get_or walk (n - 1) 0) (get_or walk k 0) ≡ true) next
    (c.requires.walk.edges (n - 1) before) in
    let here : get_or walk (n - 1) 0 ≡ (get_or c.args.walk.now (n - 1) none).0 =
    get_or-map (λ (x : VertexName). x.0) c.args.walk.now (n - 1) none 0 (omega (arith, c.loop-place.auto.place)) in
    let there : get_or walk n 0 ≡ (get_or c.args.walk.now n none).0 =
    get_or-map (λ (x : VertexName). x.0) c.args.walk.now n none 0 within in
    ap (λ (x : ℕ). is_edge c.args.surface.now.mesh x (get_or c.args.walk.now n none).0) (sym here)
    ∙ ap (is_edge c.args.surface.now.mesh (get_or walk (n - 1) 0)) (sym there) ∙ edge

pub loop-place-preserved : goal.loop-place-preserved
loop-place-preserved c = grind (arith, common_steps, length-numbers, more_so_far)

pub returns-clause-spokes : goal.returns-clause-spokes
returns-clause-spokes c =
    all_spokes c.args.surface.now c.args.polygon.now c.requires.valid (numbers c.args.walk.now) c.loop-place.place c.loop-place.spokes.items
    (omega (arith, c.loop-place-test.false, length-numbers c.args.walk.now)) c.loop-place.invariant

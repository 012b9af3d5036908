use Rattle.orientation_cover.proofs.Common.{over, ◌≡◌, ℕ, subst, arith, used_below}
use Rattle.orientation_cover.proofs.CoverLemmas.{lift_more, lift_done}
use Rattle.orientation_cover.proofs.lifting.lift.Goals as goal

pub over-requires : goal.over-requires
over-requires c = grind (arith, used_below)

pub loop-place-preserved : goal.loop-place-preserved
loop-place-preserved c =
    let walk = c.args.walk.now in
    lift_more c.args.faces.now c.args.ways.now walk c.loop-place.lift c.push.new.self c.loop-place.upper c.differ-upper.result
    c.turns.result c.loop-place.place c.at-from.result.0 c.at-to.result.0 c.over.result
    (omega (arith, c.darts-place-end.ensures.count)) c.at-from.ensures c.at-to.ensures c.turns.ensures c.differ-upper.ensures
    (subst (λ (n : ℕ). c.over.result ≡ over n c.differ-upper.result c.at-to.result.0) c.count.ensures.count c.over.ensures)
    c.in_ok-push.ensures.ok c.loop-place.invariant

pub returns : goal.returns
returns c =
    lift_done c.args.faces.now c.args.ways.now c.args.walk.now c.loop-place.lift c.loop-place.upper c.loop-place.place
    (omega (arith, c.darts-place-end.ensures.count)) c.loop-place.invariant

use Rattle.spoke_rings.proofs.Common.{arith, length, ap, ◌∙◌, ◌-◌, ◌+◌, place_round}
use Rattle.spoke_rings.proofs.Places.{turn-on, turn-back}
use Rattle.spoke_rings.proofs.ring.turn_between.Goals as goal

pub returns-then-from-to : goal.returns-then-from-to
returns-then-from-to c = grind (arith, turn-on)

pub returns-else-from-to : goal.returns-else-from-to
returns-else-from-to c =
    let from = c.place_round-from in
    let to = c.place_round-to in
    ap (λ d. d - from.result + to.result) c.degree.ensures.degree
    ∙ turn-back (length c.args.wheel.now) (place_round c.args.wheel.now c.args.at_vertex c.args.before)
    (place_round c.args.wheel.now c.args.at_vertex c.args.spoke) from.result to.result from.ensures.place to.ensures.place
    from.ensures.below to.ensures.below c.if-from-to.false

use Rattle.spoke_rings.proofs.Common.{stands_before, ring_turn, ◌≡◌, ◌-◌, ◌<◌, length, get_or, arith, sym, ap, ap₂, ◌∙◌, get_or_read}
use Rattle.spoke_rings.proofs.RingTurns.{turn_at, turn-behind}
use Rattle.spoke_rings.proofs.ring.Ring.turn.Goals as goal

pub returns : goal.returns
returns c =
    let places = c.args.wheel.now in
    let ring = c.self.inside in
    let s = ring.spokes.items in
    let long = ap (λ r. length r.spokes) c.self.view_is in
    let at = c.args.at in
    let less : at - 1 < length s = omega (arith, c.requires.at) in
    let before : c.index-2.result.now ≡ get_or s (at - 1) 0 =
    get_or_read s (at - 1) c.index-2.result.now less c.index-2.ensures 0 in
    let spoke : c.index-3.result.now ≡ get_or s at 0 =
    get_or_read s at c.index-3.result.now (omega (arith, c.requires.at)) c.index-3.ensures 0 in
    record {
      turn = c.turn_between-2.ensures ∙ ap (λ b. turn_at places b c.index-2.result.now c.index-3.result.now)
          (c.stands_before-stands.ensures ∙ ap (λ r. stands_before r.at_vertex at) (sym c.self.view_is))
          ∙ ap₂ (turn_at places (stands_before ring.at_vertex at)) before spoke
          ∙ sym (ap (λ r. ring_turn places r at) (sym c.self.view_is)
          ∙ turn-behind places ring.at_vertex s at (omega (arith, c.if-at-eq0.false)) (omega (arith, c.requires.at)));
    }

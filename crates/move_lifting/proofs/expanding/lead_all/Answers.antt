use Rattle.move_lifting.proofs.Common.{TrackView, IsOffCotree, ◌≡◌, ℕ, ◌+◌, ◌-◌, ◌<◌, List, length, ap, sym, subst, arith, common_steps, get_or-map, numbers, VertexName}
use Rattle.move_lifting.proofs.ExpandLemmas.{edge_to, led_first, led_more, led_all, length-numbers}
use Rattle.move_lifting.proofs.expanding.lead_all.Goals as goal

pub loop-place-init : goal.loop-place-init
loop-place-init c =
    let walk : List ℕ = numbers c.args.walk.now in
    let long : length walk ≡ length c.args.walk.now = length-numbers c.args.walk.now in
    let some : 0 < length walk = c.requires.walk.starts in
    record {
      led = led_first c.args.on.now.surface.now c.args.on.now.split.now c.args.behind walk c.args.moves c.in_ok-track.track _ _ some
          (get_or-map (λ (x : VertexName). x.0) c.args.walk.now 0 _ 0 (omega arith)) c.in_ok-track.ensures;
      off_cotree = subst (IsOffCotree c.args.on.now.surface.now c.args.on.now.split.now)
          (sym (ap (λ (t : TrackView). t.walk) c.in_ok-track.ensures)) (λ k d l. absurd (omega arith));
      pending = c.in_ok-pending.ensures.items;
      few = omega (arith, ap (λ (t : TrackView). length t.walk) c.in_ok-track.ensures);
    }

pub lead_on-requires-clause-edge : goal.lead_on-requires-clause-edge
lead_on-requires-clause-edge c = grind (arith, edge_to)

pub loop-place-preserved : goal.loop-place-preserved
loop-place-preserved c =
    let walk : List ℕ = numbers c.args.walk.now in
    let n : ℕ = c.loop-place.place in
    let within : n < length c.args.walk.now = omega (arith, c.loop-place-test.true) in
    let long : length walk ≡ length c.args.walk.now = length-numbers c.args.walk.now in
    let here : n < length walk = omega arith in
    record {
      led = led_more c.lead_on.new.track _ (length c.args.walk.now - n - 1 + c.args.behind) c.loop-place.invariant.led here
          (get_or-map (λ (x : VertexName). x.0) c.args.walk.now n _ 0 within) (omega arith) c.in_ok-lead_on.ensures.led
          c.in_ok-lead_on.ensures.no_spur;
      off_cotree = c.in_ok-lead_on.ensures.off_cotree;
      pending = c.in_ok-lead_on.ensures.pending;
      few = omega (arith, c.in_ok-lead_on.ensures.long, c.loop-place.invariant.few, c.requires.on.sides);
    }

pub returns-clause-led : goal.returns-clause-led
returns-clause-led c = grind (arith, common_steps, led_all, length-numbers)

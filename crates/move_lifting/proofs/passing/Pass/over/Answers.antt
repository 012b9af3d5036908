use Rattle.move_lifting.proofs.Common.{TrackView, ◌≡◌, ℕ, ◌+◌, ◌-◌, ◌<◌, List, length, ap, arith, common_steps, get_or-map, numbers, VertexName}
use Rattle.move_lifting.proofs.ExpandLemmas.{edge_to, led_first, led_more, led_all, length-numbers}
use Rattle.move_lifting.proofs.passing.Pass.over.Goals as goal

pub loop-place-init : goal.loop-place-init
loop-place-init c =
    let walk : List ℕ = numbers c.args.walk.now in
    let long : length walk ≡ length c.args.walk.now = length-numbers c.args.walk.now in
    let some : 0 < length walk = c.requires.walk.starts in
    record {
      led = led_first c.args.self.now.on.now.surface.now c.args.self.now.on.now.split.now c.args.self.now.behind walk c.args.moves
          c.in_ok-track.track _ _ some (get_or-map (λ (x : VertexName). x.0) c.args.walk.now 0 _ 0 (omega arith)) c.in_ok-track.ensures;
      pending = c.in_ok-pending.ensures.items;
      few = omega (arith, ap (λ (t : TrackView). length t.walk) c.in_ok-track.ensures, c.requires.few);
      cells = omega (arith, long, ap (λ (t : TrackView). t.spare) c.in_ok-track.ensures);
    }

pub step-requires-clause-edge : goal.step-requires-clause-edge
step-requires-clause-edge c = grind (arith, edge_to)

pub loop-place-preserved : goal.loop-place-preserved
loop-place-preserved c =
    let walk : List ℕ = numbers c.args.walk.now in
    let n : ℕ = c.loop-place.place in
    let within : n < length c.args.walk.now = omega (arith, c.loop-place-test.true) in
    let long : length walk ≡ length c.args.walk.now = length-numbers c.args.walk.now in
    let here : n < length walk = omega arith in
    record {
      led = led_more c.step.new.track _ (length c.args.walk.now - n - 1 + c.args.self.now.behind) c.loop-place.invariant.led here
          (get_or-map (λ (x : VertexName). x.0) c.args.walk.now n _ 0 within) (omega arith) c.in_ok-step.ensures.led
          c.in_ok-step.ensures.no_spur;
      pending = c.in_ok-step.ensures.pending;
      few = omega (arith, c.in_ok-step.ensures.few, within);
      cells = omega (arith, c.in_ok-step.ensures.spare, within);
    }

pub returns-clause-led : goal.returns-clause-led
returns-clause-led c = grind (arith, common_steps, led_all, length-numbers)

use Rattle.move_lifting.proofs.Common.{OrientedMesh, IsLedOn, TrackView, ◌≡◌, ℕ, List, length, ap, sym, subst, arith, common_steps, numbers, VertexName, SplitView}
use Rattle.move_lifting.proofs.ExpandLemmas.{length-numbers}
use Rattle.move_lifting.proofs.LedLemmas.{led_after, led_from, led_itself, led_walk}
use Rattle.move_lifting.proofs.passing.pass_over.Goals as goal

pub loop-pass-init : goal.loop-pass-init
loop-pass-init c = grind (arith, common_steps, led_itself)

pub least_depth-depth-requires-clause-walk : goal.least_depth-depth-requires-clause-walk
least_depth-depth-requires-clause-walk c =
    rw c.as_slice-vertices.ensures.value (led_walk (led_from c.requires.led c.loop-pass.invariant.led))

pub over-requires-clause-walk : goal.over-requires-clause-walk
over-requires-clause-walk c =
    rw c.as_slice-vertices.ensures.value (led_walk (led_from c.requires.led c.loop-pass.invariant.led))

pub loop-pass-preserved : goal.loop-pass-preserved
loop-pass-preserved c =
    let s : OrientedMesh = c.args.on.now.surface.now in
    let split : SplitView = c.args.on.now.split.now in
    let track : TrackView = c.in_ok-track.track in
    let led : IsLedOn s split c.args.behind (numbers c.loop-pass.walk.items) c.loop-pass.moves track.walk track.list =
    subst (λ (l : List VertexName). IsLedOn s split c.args.behind (numbers l) c.loop-pass.moves track.walk track.list)
    c.as_slice-vertices.ensures.value c.in_ok-track.ensures.led in
    let vertices : numbers c.in_ok-next.next.items ≡ track.walk = c.in_ok-next.ensures.vertices in
    record {
      led = led_after c.loop-pass.invariant.led
          (subst (λ (l : List ℕ). IsLedOn s split c.args.behind (numbers c.loop-pass.walk.items) c.loop-pass.moves l c.in_ok-next.list)
          (sym vertices)
          (subst (IsLedOn s split c.args.behind (numbers c.loop-pass.walk.items) c.loop-pass.moves track.walk)
          (sym c.in_ok-next.ensures.moves) led));
      few = omega (
        arith,
        length-numbers c.in_ok-next.next.items,
        ap (λ (l : List ℕ). length l) vertices,
        c.in_ok-track.ensures.few,
      );
      looked_at = omega (arith, c.loop-pass.invariant.looked_at, c.loop-pass.invariant.few, c.len.ensures);
    }

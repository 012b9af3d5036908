use Rattle.move_lifting.proofs.Common.{IsLedOn, ◌≡◌, ℕ, ◌+◌, ◌++◌, List, length, subst, arith, common_steps, append-nil, nil_from_length, reverse, numbers, VertexName}
use Rattle.move_lifting.proofs.PassLemmas.{put_more}
use Rattle.move_lifting.proofs.LedLemmas.{led_itself, led_put}
use Rattle.move_lifting.proofs.ExpandLemmas.{length-numbers}
use Rattle.move_lifting.proofs.passing.put_pending.Goals as goal

pub loop-next-init : goal.loop-next-init
loop-next-init c = grind (arith, common_steps, length-numbers, led_itself)

pub loop-next-preserved : goal.loop-next-preserved
loop-next-preserved c =
    let put = c.in_ok-put.ensures in
    record {
      so_far = put_more c.put.new.self c.pop.new.self.items c.in-Some.next (c.len.result + c.args.behind) c.loop-next.invariant.so_far
          c.in-Some.ensures.items (omega (arith, c.len.ensures))
          (λ s split. led_put (c.len.result + c.args.behind) c.in-Some.next.0 c.loop-next.track c.put.new.self (put.leads s.mesh) put.some
          put.last put.more put.shape put.count put.peak) put.no_spur put.some put.long;
      cells = omega (arith, put.cells, c.loop-next.invariant.cells);
    }

pub returns-clause-led : goal.returns-clause-led
returns-clause-led c = λ s split.
    let few : length c.loop-next.pending.items ≡ 0 = omega (arith, c.in_default.ensures.cases.0) in
    let begun : List ℕ = c.args.track.now.walk ++ reverse (numbers c.args.pending.now.items) in
    subst (λ (l : List ℕ). IsLedOn s split c.args.behind begun c.args.track.now.list l c.loop-next.track.list)
    (append-nil c.loop-next.track.walk)
    (subst (λ (l : List VertexName). IsLedOn s split c.args.behind begun c.args.track.now.list
    (c.loop-next.track.walk ++ reverse (numbers l)) c.loop-next.track.list) (nil_from_length c.loop-next.pending.items few)
    (c.loop-next.invariant.so_far.led s split))

use Rattle.move_lifting.proofs.Common.{◌-◌, List, length, sym, arith, common_steps, get_or-map, VertexName}
use Rattle.move_lifting.proofs.BackLemmas.{back_so_far, one_longer, length-backward}
use Rattle.move_lifting.proofs.ExpandLemmas.{length-numbers}
use Rattle.move_lifting.proofs.inserting.back_along.Goals as goal

pub loop-done-preserved : goal.loop-done-preserved
loop-done-preserved c =
    let walk : List VertexName = c.args.walk.now in
    let pushed = c.in_ok-push.ensures.items in
    record {
      long = omega (arith, one_longer c.push.new.self.items c.loop-done.back.items _ pushed, c.loop-done.invariant.long);
      so_far = back_so_far walk c.loop-done.back.items c.push.new.self.items c.loop-done.done _ c.loop-done.invariant.long
          c.loop-done-test.true pushed
          (sym (get_or-map (λ (x : VertexName). x.0) walk (length walk - c.loop-done.done - 1) _ 0
          (omega (arith, c.loop-done-test.true, c.loop-done.auto.done))))
          c.loop-done.invariant.so_far;
    }

pub returns : goal.returns
returns c = grind (arith, common_steps, length-backward, length-numbers)

use Rattle.surf_gen.proofs.Common.{◌-◌, ap, length, arith, length_push, point}
use Rattle.surf_gen.proofs.WalkLemmas.{passed_more}
use Rattle.surf_gen.proofs.chain.Chain.go_round_column.Goals as goal

pub loop-row-preserved : goal.loop-row-preserved
loop-row-preserved c =
    let step = c.loop-row in
    record {
      passed = passed_more c.args.self.grid (λ row. point 0 row (c.args.self.grid - 1)) _ step.walk _ step.row _ c.in_ok-push.ensures.ok
          c.first_torus.ensures step.invariant.passed;
      long = omega (arith, ap length c.in_ok-push.ensures.ok, length_push step.walk c.first_torus.result.0, step.invariant.long);
    }

use Rattle.surf_gen.proofs.Common.{◌-◌, ap, length, arith, length_push, point}
use Rattle.surf_gen.proofs.WalkLemmas.{passed_more}
use Rattle.surf_gen.proofs.chain.Chain.go_round_row.Goals as goal

pub loop-column-preserved : goal.loop-column-preserved
loop-column-preserved c =
    let step = c.loop-column in
    record {
      passed = passed_more c.args.self.grid (point 0 (c.args.self.grid - 1)) _ step.walk _ step.column _ c.in_ok-push.ensures.ok
          c.first_torus.ensures step.invariant.passed;
      long = omega (arith, ap length c.in_ok-push.ensures.ok, length_push step.walk c.first_torus.result.0, step.invariant.long);
    }

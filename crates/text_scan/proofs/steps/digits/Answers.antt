use Rattle.text_scan.proofs.Common.{arith, common_steps}
use Rattle.text_scan.proofs.StepLemmas.{no_few, few_small, few_more}
use Rattle.text_scan.proofs.steps.digits.Goals as goal

pub loop-at-init : goal.loop-at-init
loop-at-init c = no_few c.args.bytes.now

pub overflow_mul-value : goal.overflow_mul-value
overflow_mul-value c =
    omega (
      arith,
      few_small c.args.bytes.now c.loop-at.at c.loop-at.value (omega (arith, c.loop-at-test.true, c.min-few.ensures))
          c.loop-at.invariant,
    )

pub overflow_add-value : goal.overflow_add-value
overflow_add-value c =
    omega (
      arith,
      few_small c.args.bytes.now c.loop-at.at c.loop-at.value (omega (arith, c.loop-at-test.true, c.min-few.ensures))
          c.loop-at.invariant,
      c.from.ensures,
      c.type_inv.bytes c.loop-at.at,
    )

pub loop-at-preserved : goal.loop-at-preserved
loop-at-preserved c = grind (arith, common_steps, few_more)

use Rattle.text_scan.proofs.Common.{arith, refl, value_of}
use Rattle.text_scan.proofs.NaturalLemmas.{value_step, value_past, natural_digit}
use Rattle.text_scan.proofs.naturals.value_of.Goals as goal

pub loop-digit-init : goal.loop-digit-init
unfolding value_of
loop-digit-init c = refl

pub returns-in_err-checked_mul : goal.returns-in_err-checked_mul
returns-in_err-checked_mul c = grind (arith, value_past)

pub overflow_sub-digit : goal.overflow_sub-digit
overflow_sub-digit c = natural_digit c.args.digits.now c.loop-digit.digit-index c.requires c.loop-digit-test.true

pub returns-in_err-value : goal.returns-in_err-value
returns-in_err-value c = grind (arith, value_past)

pub loop-digit-preserved : goal.loop-digit-preserved
loop-digit-preserved c = grind (arith, value_step)

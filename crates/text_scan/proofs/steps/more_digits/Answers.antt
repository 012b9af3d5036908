use Rattle.text_scan.proofs.Common.{arith}
use Rattle.text_scan.proofs.StepLemmas.{one_digit}
use Rattle.text_scan.proofs.steps.more_digits.Goals as goal

pub loop-rest-preserved : goal.loop-rest-preserved
loop-rest-preserved c = grind (arith, one_digit)

use Rattle.text_scan.proofs.Common.{arith}
use Rattle.text_scan.proofs.NaturalLemmas.{past_digit}
use Rattle.text_scan.proofs.naturals.after_digits.Goals as goal

pub loop-rest-preserved : goal.loop-rest-preserved
loop-rest-preserved c = grind (arith, past_digit)

use Rattle.text_scan.proofs.Common.{arith}
use Rattle.text_scan.proofs.NaturalLemmas.{with_exponent, without_exponent}
use Rattle.text_scan.proofs.naturals.is_unsigned_text.Goals as goal

pub returns-then-is_decimal : goal.returns-then-is_decimal
returns-then-is_decimal c = grind (arith, with_exponent)

pub returns-in-None : goal.returns-in-None
returns-in-None c = grind (arith, without_exponent)

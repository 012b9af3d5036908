use Rattle.text_scan.proofs.Common.{arith}
use Rattle.text_scan.proofs.NaturalLemmas.{natural_both, natural_front}
use Rattle.text_scan.proofs.naturals.are_digits.Goals as goal

pub returns-else-is_empty-2 : goal.returns-else-is_empty-2
returns-else-is_empty-2 c = grind (arith, natural_both)

pub returns-else-is_natural : goal.returns-else-is_natural
returns-else-is_natural c = grind (arith, natural_front)

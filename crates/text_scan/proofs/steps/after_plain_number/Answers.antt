use Rattle.text_scan.proofs.Common.{arith}
use Rattle.text_scan.proofs.TextLemmas.{plain_number}
use Rattle.text_scan.proofs.steps.after_plain_number.Goals as goal

pub returns-else-begins_word : goal.returns-else-begins_word
returns-else-begins_word c = grind (arith, plain_number)

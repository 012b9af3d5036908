use Rattle.text_scan.proofs.Common.{arith}
use Rattle.text_scan.proofs.StepLemmas.{here}
use Rattle.text_scan.proofs.ViewLemmas.{few_left}
use Rattle.text_scan.proofs.cursor.Cursor.short_natural.Goals as goal

pub returns-in-Some-clause-few : goal.returns-in-Some-clause-few
returns-in-Some-clause-few c = grind (arith, few_left, here)

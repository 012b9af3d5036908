use Rattle.text_scan.proofs.Common.{arith}
use Rattle.text_scan.proofs.ViewLemmas.{starts_unmarked}
use Rattle.text_scan.proofs.cursor.unmarked.Goals as goal

pub returns : goal.returns
returns c = grind (arith, starts_unmarked)

use Rattle.text_scan.proofs.Common.{arith}
use Rattle.text_scan.proofs.StepLemmas.{few_lines}
use Rattle.text_scan.proofs.cursor.Cursor.end_line.Goals as goal

pub overflow_add-result : goal.overflow_add-result
overflow_add-result c = grind (arith, few_lines c.self.inside.text.now, c.self.told)

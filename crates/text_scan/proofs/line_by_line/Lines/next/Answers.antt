use Rattle.text_scan.proofs.Common.{arith}
use Rattle.text_scan.proofs.ViewLemmas.{a_line}
use Rattle.text_scan.proofs.line_by_line.Lines.next.Goals as goal

pub returns : goal.returns
returns c = grind (arith, a_line)

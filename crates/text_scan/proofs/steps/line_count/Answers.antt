use Rattle.text_scan.proofs.Common.{arith, sym}
use Rattle.text_scan.proofs.StepLemmas.{one_line, no_lines}
use Rattle.text_scan.proofs.steps.line_count.Goals as goal

pub loop-rest-smaller : goal.loop-rest-smaller
loop-rest-smaller c = grind (arith, one_line)

pub loop-rest-preserved : goal.loop-rest-preserved
loop-rest-preserved c = grind (arith, one_line)

pub returns : goal.returns
returns c = omega (arith, c.loop-rest.invariant.0, no_lines c.loop-rest.rest.now (sym c.loop-rest-test.ensures))

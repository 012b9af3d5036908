use Rattle.text_scan.proofs.Common.{arith}
use Rattle.text_scan.proofs.StepLemmas.{on_in_line, at_line_feed, at_end}
use Rattle.text_scan.proofs.steps.after_line.Goals as goal

pub loop-rest-preserved : goal.loop-rest-preserved
loop-rest-preserved c = grind (arith, on_in_line)

pub returns-in_default-clause-words : goal.returns-in_default-clause-words
returns-in_default-clause-words c = at_end c.loop-rest.rest.now c.in_default.len_below

pub returns-then-byte-eq10-clause-words : goal.returns-then-byte-eq10-clause-words
returns-then-byte-eq10-clause-words c = at_line_feed c.loop-rest.rest.now c.in-len1-up.len_at_least c.if-byte-eq10.true

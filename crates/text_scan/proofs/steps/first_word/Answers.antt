use Rattle.text_scan.proofs.Common.{arith}
use Rattle.text_scan.proofs.StepLemmas.{pass_blank, pass_line_feed, pass_comment, no_more}
use Rattle.text_scan.proofs.steps.first_word.Goals as goal

pub loop-rest-preserved-then-is_blank : goal.loop-rest-preserved-then-is_blank
loop-rest-preserved-then-is_blank c = grind (arith, pass_blank)

pub loop-rest-preserved-then-byte-eq10 : goal.loop-rest-preserved-then-byte-eq10
loop-rest-preserved-then-byte-eq10 c = grind (arith, pass_line_feed)

pub loop-rest-preserved : goal.loop-rest-preserved
loop-rest-preserved c = grind (arith, pass_comment)

pub returns : goal.returns
returns c = no_more c.args.start c.loop-rest.line c.args.bytes.now c.loop-rest.rest.now c.in_default.len_below c.loop-rest.invariant

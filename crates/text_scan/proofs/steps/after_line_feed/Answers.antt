use Rattle.text_scan.proofs.Common.{arith}
use Rattle.text_scan.proofs.StepLemmas.{no_line_feed, past_line_feed}
use Rattle.text_scan.proofs.steps.after_line_feed.Goals as goal

pub returns-then-is_empty : goal.returns-then-is_empty
returns-then-is_empty c = grind (arith, no_line_feed)

pub returns-else-is_empty : goal.returns-else-is_empty
returns-else-is_empty c = grind (arith, past_line_feed)

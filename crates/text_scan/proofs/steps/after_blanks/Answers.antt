use Rattle.text_scan.proofs.Common.{sym}
use Rattle.text_scan.proofs.StepLemmas.{past_blank}
use Rattle.text_scan.proofs.steps.after_blanks.Goals as goal

pub loop-rest-preserved : goal.loop-rest-preserved
loop-rest-preserved c = past_blank c.args.bytes.now c.loop-rest.rest.now c.in-len1-up.len_at_least (sym c.if-not-is_blank.ensures)
    c.loop-rest.invariant

use Rattle.text_scan.proofs.Common.{length, IsPast}
use Rattle.text_scan.proofs.steps.after_blanks.Given as goal

abbrev pub invariant-loop-rest : goal.invariant-loop-rest
invariant-loop-rest l = IsPast 0 l.bytes l.rest

abbrev pub decreases-loop-rest : goal.decreases-loop-rest
decreases-loop-rest l = length l.rest

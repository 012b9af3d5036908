use Rattle.text_scan.proofs.Common.{length, IsPastDigits}
use Rattle.text_scan.proofs.naturals.after_digits.Given as goal

abbrev pub invariant-loop-rest : goal.invariant-loop-rest
invariant-loop-rest l = IsPastDigits l.bytes l.rest

abbrev pub decreases-loop-rest : goal.decreases-loop-rest
decreases-loop-rest l = length l.rest

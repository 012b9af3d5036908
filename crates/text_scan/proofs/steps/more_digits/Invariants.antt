use Rattle.text_scan.proofs.Common.{ℕ, List, length, ArePastDigits}
use Rattle.text_scan.proofs.steps.more_digits.Given as goal

abbrev pub invariant-loop-rest : goal.invariant-loop-rest
invariant-loop-rest l = (text : List ℕ) → ArePastDigits text l.before l.bytes → ArePastDigits text l.value l.rest

abbrev pub decreases-loop-rest : goal.decreases-loop-rest
decreases-loop-rest l = length l.rest

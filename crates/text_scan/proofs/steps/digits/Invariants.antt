use Rattle.text_scan.proofs.StepLemmas.{FewDigits}
use Rattle.text_scan.proofs.steps.digits.Given as goal

abbrev pub invariant-loop-at : goal.invariant-loop-at
invariant-loop-at l = FewDigits l.bytes l.at l.value

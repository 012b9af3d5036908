use Rattle.text_scan.proofs.Common.{◌≡◌, length, ends_word, from_first}
use Rattle.text_scan.proofs.steps.after_word.Given as goal

abbrev pub invariant-loop-rest : goal.invariant-loop-rest
invariant-loop-rest l = from_first ends_word l.rest ≡ from_first ends_word l.bytes

abbrev pub decreases-loop-rest : goal.decreases-loop-rest
decreases-loop-rest l = length l.rest

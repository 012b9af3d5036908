use Rattle.text_scan.proofs.Common.{◌≡◌, take, value_of}
use Rattle.text_scan.proofs.naturals.value_of.Given as goal

abbrev pub invariant-loop-digit : goal.invariant-loop-digit
invariant-loop-digit l = l.value ≡ value_of (take l.digit-index l.digits)

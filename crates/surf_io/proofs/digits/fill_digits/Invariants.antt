use Rattle.surf_io.proofs.Common.{◌≡◌, ◌≤◌, ◌++◌, drop, length, decimal}
use Rattle.surf_io.proofs.digits.fill_digits.Given as goal

abbrev pub invariant-loop-rest : goal.invariant-loop-rest
invariant-loop-rest l = (length l.text ≡ 20) × (l.start ≤ 20) × (decimal l.n ≡ decimal l.rest ++ drop l.start l.text)

abbrev pub decreases-loop-rest : goal.decreases-loop-rest
decreases-loop-rest l = l.rest

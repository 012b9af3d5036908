use Rattle.common_ends.proofs.Common.{◌≡◌, ◌-◌, drop, darts}
use Rattle.common_ends.proofs.common_darts.common_back.Given as goal

abbrev pub invariant-loop-back : goal.invariant-loop-back
invariant-loop-back l = drop (darts l.first - l.back) l.first ≡ drop (darts l.second - l.back) l.second

use Rattle.common_ends.proofs.Common.{◌≡◌, ◌+◌, take}
use Rattle.common_ends.proofs.common_darts.common_front.Given as goal

abbrev pub invariant-loop-front : goal.invariant-loop-front
invariant-loop-front l = take (l.front + 1) l.first ≡ take (l.front + 1) l.second

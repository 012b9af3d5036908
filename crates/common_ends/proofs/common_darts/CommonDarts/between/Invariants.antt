use Rattle.common_ends.proofs.Common.{◌≡◌, ◌+◌, take, drop}
use Rattle.common_ends.proofs.common_darts.CommonDarts.between.Given as goal

abbrev pub invariant-loop-done : goal.invariant-loop-done
invariant-loop-done l = l.part ≡ take (l.done + 1) (drop l.self.front l.walk)

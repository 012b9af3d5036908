use Rattle.move_checker.proofs.Common.{◌+◌}
use Rattle.move_checker.proofs.SideLemmas.{AreRead}
use Rattle.move_checker.proofs.sides.are_behind.Given as goal

abbrev pub invariant-loop-k : goal.invariant-loop-k
invariant-loop-k l = AreRead l.fn.entries l.entries l.walk (λ j. l.place + j) l.k

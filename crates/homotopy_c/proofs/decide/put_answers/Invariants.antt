use Rattle.homotopy_c.proofs.Common.{◌≡◌, ◌++◌, take, map}
use Rattle.std.proofs.Common.{drop}
use Rattle.homotopy_c.proofs.decide.put_answers.Given as goal

-- the bytes so far
abbrev pub invariant-loop-k : goal.invariant-loop-k
invariant-loop-k g l = l.room ≡ map g.A.HasByte.code (take l.k l.given) ++ drop l.k l.initial.room

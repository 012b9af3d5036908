use Rattle.surf_gen.proofs.Common.{◌≡◌, ◌++◌, decimal}
use Rattle.surf_gen.proofs.line.LineEnd.put_number_before.Given as goal

-- the digits that are left to write, and then what was written, are all digits and what was there
abbrev pub invariant-loop-rest : goal.invariant-loop-rest
invariant-loop-rest l = decimal l.number ++ l.initial.self ≡ decimal l.rest ++ l.self

abbrev pub decreases-loop-rest : goal.decreases-loop-rest
decreases-loop-rest l = l.rest

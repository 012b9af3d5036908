use Rattle.move_checker.proofs.Common.{under, ◌≡◌, ◌+◌, take, Some}
use Rattle.move_checker.proofs.tape.Tape.start.Given as goal

abbrev pub invariant-loop-place : goal.invariant-loop-place
invariant-loop-place l =
    (under l.pool.lists l.chain.0 ≡ Some (take l.place l.walk)) × (l.pool.spare + l.place ≡ l.peak + 1)

use Rattle.move_checker.proofs.Common.{list_of, ◌≡◌, ◌+◌, ◌-◌, ◌≤◌, length, take}
use Rattle.move_checker.proofs.tape.Tape.equals.Given as goal

abbrev pub invariant-loop-place : goal.invariant-loop-place
invariant-loop-place l =
    (take l.place (list_of l.self-inside.pool l.self-inside.chain.0) ≡ take l.place l.walk) × (l.place ≤ length l.walk)

abbrev pub decreases-loop-place : goal.decreases-loop-place
decreases-loop-place l = length l.walk - l.place

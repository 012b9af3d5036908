use Rattle.move_checker.proofs.Common.{verdict_of, verdict_from, ◌≡◌, ◌+◌, drop}
use Rattle.move_checker.proofs.judge.check_moves.Given as goal

abbrev pub invariant-loop-k : goal.invariant-loop-k
invariant-loop-k l =
    (verdict_of l.faces l.first l.second l.list ≡ verdict_from l.faces l.list.peak l.second (l.k + 1) l.tape.walk (drop l.k l.list.moves))
    × (l.tape.peak ≡ l.list.peak)

use Rattle.move_checker.proofs.Common.{list_of, ◌≡◌, ◌+◌, take, drop, face_at}
use Rattle.move_checker.proofs.Ways.{IsOnWay}
use Rattle.move_checker.proofs.edits.reads_face.Given as goal

abbrev pub invariant-loop-step : goal.invariant-loop-step
invariant-loop-step l =
    (l.pool ≡ l.fn.pool)
    × IsOnWay (face_at l.faces l.way.face.0) l.way.forward l.way.corner
    (take (l.steps + 1) (drop l.spot.at (list_of l.fn.pool l.spot.chain.0))) l.step l.corner

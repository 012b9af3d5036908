use Rattle.move_checker.proofs.Common.{under, list_of, ◌≡◌, ◌+◌, ◌<◌, ◌++◌, length, take, drop, Some, face_at, corners_from}
use Rattle.move_checker.proofs.Ways.{corner_after}
use Rattle.move_checker.proofs.edits.push_face.Given as goal

abbrev pub invariant-loop-step : goal.invariant-loop-step
invariant-loop-step l =
    let ring = face_at l.faces l.way.face.0 in
    let others = drop 1 (corners_from ring l.way.forward l.way.corner l.steps) in
    let list = list_of l.fn.pool l.spot.chain.0 in
    (under l.pool.lists l.spot.chain.0 ≡ Some (take l.spot.at list ++ take l.step others ++ drop l.spot.at list))
    × (l.pool.spare + l.step ≡ l.fn.pool.spare)
    × (l.corner ≡ corner_after l.way.forward (length ring) l.way.corner l.step)
    × (l.corner < length ring)

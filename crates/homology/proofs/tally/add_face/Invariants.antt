use Rattle.homology.proofs.Common.{total, share, GrewBy, take, map, FaceSide, face_at, sides_of_face}
use Rattle.homology.proofs.tally.add_face.Given as goal

-- the sides so far
abbrev pub invariant-loop-at : goal.invariant-loop-at
invariant-loop-at l =
    GrewBy l.sides
    (λ low high. total (map (λ (side : FaceSide). share l.fn.amount low high side.tail side.head)
    (take l.at (sides_of_face l.face.0 (face_at l.faces l.face.0)))))
    l.initial.tally
    l.tally

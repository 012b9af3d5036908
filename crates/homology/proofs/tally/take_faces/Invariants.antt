use Rattle.homology.proofs.Common.{total, share, GrewBy, number_at, map, neg_ℤ, sides_up_to, FaceSide}
use Rattle.homology.proofs.tally.take_faces.Given as goal

-- the faces so far
abbrev pub invariant-loop-face : goal.invariant-loop-face
invariant-loop-face l =
    GrewBy l.sides
    (λ low high. neg_ℤ (total (map (λ (side : FaceSide). share (number_at l.of_face side.face) low high side.tail side.head)
    (sides_up_to l.faces l.face))))
    l.initial.tally
    l.tally

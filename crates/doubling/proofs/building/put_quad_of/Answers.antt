use Rattle.doubling.proofs.Common.{with_face, with_quads, HasNoRoom, EndsEarly, arith, ◌≡◌, ◌+◌, [], ◌∷◌, refl, has_side, first_side, total_sides}
use Rattle.std.proofs.lemmas.Result.{IfErr-weaker}
use Rattle.doubling.proofs.BuildingLemmas.{quads_same, quad_is, quad_next, quads_first, ends_early}
use Rattle.doubling.proofs.building.put_quad_of.Goals as goal
use Rattle.doubling.proofs.building.put_quad_of.Goals.{After-mirror-2}

pub is_rim-requires : goal.is_rim-requires
is_rim-requires c = has_side c.args.faces.now c.args.sides.now c.args.side.face.0 c.args.side.at c.requires.table c.requires.side.face
    c.requires.side.place

pub returns-then-not-is_rim-clause-put : goal.returns-then-not-is_rim-clause-put
returns-then-not-is_rim-clause-put c = grind (arith, quads_same)

-- so its quad comes next
next : (c : After-mirror-2) → with_face c.args.double.now
    (c.corner-head.result.0 ∷ c.corner-tail.result.0 ∷ c.mirror.result.0 ∷ c.mirror-2.result.0 ∷ [])
    ≡ with_quads c.args.faces.now (first_side c.args.faces.now c.args.side.face.0 + c.args.side.at + 1)
next c = grind (arith, quad_next, quad_is)

pub returns-clause-put : goal.returns-clause-put
returns-clause-put c = grind (arith, next)

pub returns-clause-fault : goal.returns-clause-fault
returns-clause-fault c =
    let mesh = c.args.faces.now in
    let side = c.args.side in
    IfErr-weaker c.put_face.result (HasNoRoom (total_sides c.args.double.now.mesh + 4)) (EndsEarly mesh)
    (λ fault h.
    ends_early mesh c.args.double.now (with_quads mesh (first_side mesh side.face.0 + side.at + 1))
    (c.corner-head.result.0 ∷ c.corner-tail.result.0 ∷ c.mirror.result.0 ∷ c.mirror-2.result.0 ∷ []) 4 fault refl
    (next (goal.at.returns-clause-fault c).After-mirror-2) (quads_first mesh (first_side mesh side.face.0 + side.at + 1)) h)
    c.put_face.ensures.fault

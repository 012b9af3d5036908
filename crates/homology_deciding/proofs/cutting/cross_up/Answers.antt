use Rattle.homology_deciding.proofs.Common.{OrientedMesh, within_more, sent, GrewBy, AreNumbersWithin, IsWayUp, way_share, ◌+◌, ◌<◌, ℕ, [], ◌∷◌, ◌++◌, length, ap, sym, subst, arith, to_z, of_z, w64, length_push, FaceList, DartName}
use Rattle.homology_deciding.proofs.LoopLemmas.{within_grown, way_grown, way_short, at_root, leads_up}
use Rattle.homology_deciding.proofs.WayLemmas.{way_push, way_small}
use Rattle.homology_deciding.proofs.cutting.cross_up.Goals as goal
use Rattle.homology_deciding.proofs.cutting.cross_up.Goals.{In-loop-step, After-loop-step}

-- the way so far was given to the edges
grew : (c : In-loop-step) → GrewBy c.args.tree.now.surface.now.table
    (way_share c.args.tree.now.surface.now c.args.amount c.loop-step.invariant.1.0) c.args.numbers.now c.loop-step.numbers
grew c =
    let s : OrientedMesh = c.args.tree.now.surface.now in
    subst (λ z. GrewBy s.table (way_share s z c.loop-step.invariant.1.0) c.args.numbers.now c.loop-step.numbers)
    (sent c.args.amount (omega (arith, c.requires.small))) c.loop-step.invariant.1.3

-- so no number grew by more than 1
within : (c : In-loop-step) (bound : ℕ) → AreNumbersWithin bound c.args.numbers.now → AreNumbersWithin (bound + 1) c.loop-step.numbers
within c bound small =
    let tree = c.args.tree.now in
    let s : OrientedMesh = tree.surface.now in
    let i = c.loop-step.invariant in
    within_grown s.table (way_share s c.args.amount i.1.0) c.args.numbers.now c.loop-step.numbers bound 1 small (grew c) c.requires.long
    (λ low high. way_small s tree.split.now c.requires.tree c.args.amount c.args.face.0 i.1.0 c.loop-step.at.0 low high
    c.requires.small i.1.1)

-- the way has fewer darts than there are faces
short : (c : After-loop-step) → length c.loop-step.invariant.1.0 < length c.args.tree.now.surface.now.mesh.faces
short c =
    let i = c.loop-step.invariant in
    way_short c.args.tree.now c.requires.tree c.args.face.0 i.1.0 c.loop-step.at.0 c.requires.face i.1.1

pub returns-in_default-clause-way : goal.returns-in_default-clause-way
returns-in_default-clause-way c =
    let tree = c.args.tree.now in
    let i = c.loop-step.invariant in
    let root = at_root tree c.loop-step.at.0 c.up.result c.up.ensures c.in_default.is in (
      i.1.0,
      subst (IsWayUp tree.surface.now tree.split.now c.args.face.0 i.1.0) root i.1.1,
      grew (goal.at.returns-in_default-clause-way c).In-loop-step,
    )

pub returns-in_default-clause-size : goal.returns-in_default-clause-size
returns-in_default-clause-size c = within (goal.at.returns-in_default-clause-size c).In-loop-step

pub cross-requires-clause-room : goal.cross-requires-clause-room
cross-requires-clause-room c =
    within_more (4294967296 + 1) 8589934592 c.loop-step.numbers
    (within (goal.at.cross-requires-clause-room c).In-loop-step 4294967296 c.requires.room) (omega arith)

pub loop-step-preserved : goal.loop-step-preserved
loop-step-preserved c =
    let tree = c.args.tree.now in
    let s : OrientedMesh = tree.surface.now in
    let i = c.loop-step.invariant in
    let up : DartName = c.in-Some.up in (
      c.above-at.ensures.within,
      (
        i.1.0 ++ up ∷ [],
        subst (IsWayUp s tree.split.now c.args.face.0 (i.1.0 ++ up ∷ [])) (sym c.above-at.ensures.face)
            (way_push s tree.split.now c.requires.tree c.args.face.0 i.1.0 c.loop-step.at.0 up i.1.1
            (leads_up tree c.loop-step.at.0 c.up.result up c.up.ensures c.in-Some.is)),
        omega (arith, length_push i.1.0 up, i.1.2),
        way_grown s (to_z w64 (of_z w64 c.args.amount)) i.1.0 up c.args.numbers.now c.loop-step.numbers c.cross.new.numbers i.1.3
            c.cross.ensures,
      ),
    )

pub returns-clause-way : goal.returns-clause-way
returns-clause-way c =
    let at = (goal.at.returns-clause-way c).After-loop-step in
    absurd (omega (
      arith,
      short at,
      at.loop-step.invariant.1.2,
      c.loop-step-test.false,
      c.len-step-end.ensures.count,
      ap (λ (m : FaceList). length m.faces) c.faces.ensures.mesh,
    ))

pub returns-clause-size : goal.returns-clause-size
returns-clause-size c =
    let at = (goal.at.returns-clause-size c).After-loop-step in
    absurd (omega (
      arith,
      short at,
      at.loop-step.invariant.1.2,
      c.loop-step-test.false,
      c.len-step-end.ensures.count,
      ap (λ (m : FaceList). length m.faces) c.faces.ensures.mesh,
    ))

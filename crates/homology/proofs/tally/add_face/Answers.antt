use Rattle.homology.proofs.Common.{MOST_NUMBER, ◌≡◌, ◌≤◌, subst, sym, arith, ℤ, to_z, of_z, w64, common_steps, to_z-of_z, unsigned_abs, length-sides_of_face, sides_in_table, face_at, sides_of_face}
use Rattle.homology.proofs.TallyLemmas.{face_few, face_room, face_start, face_step}
use Rattle.homology.proofs.tally.add_face.Goals as goal

pub edge_at-edge-requires : goal.edge_at-edge-requires
edge_at-edge-requires c =
    (sides_in_table c.args.faces.now c.args.sides.now (record { face = c.args.face; at = c.loop-at.at }) c.requires.table).0
    (record { face = c.requires.face; place = omega (arith, c.loop-at-test.true, c.sides-at-end.ensures) })

pub add_dart-requires-clause-room : goal.add_dart-requires-clause-room
add_dart-requires-clause-room c =
    let amount : ℤ = to_z w64 (of_z w64 c.args.amount) in
    let same : amount ≡ c.args.amount = to_z-of_z w64 c.args.amount c.ranges.amount in
    face_room c.args.sides.now (sides_of_face c.args.face.0 (face_at c.args.faces.now c.args.face.0)) c.loop-at.at amount c.args.tally.now
    c.loop-at.tally c.edge_at-edge.result.0 c.loop-at.invariant c.edge_at-edge.ensures.found c.requires.room
    (subst (λ z. unsigned_abs z ≤ MOST_NUMBER) (sym same) c.requires.small)
    (omega (
      arith,
      c.loop-at-test.true,
      c.sides-at-end.ensures,
      face_few c.args.faces.now c.args.face.0 c.requires.few c.requires.face,
    ))

pub loop-at-init : goal.loop-at-init
loop-at-init c = grind (arith, face_start)

pub loop-at-preserved : goal.loop-at-preserved
loop-at-preserved c = grind (arith, face_step)

pub returns : goal.returns
returns c = grind (arith, common_steps, length-sides_of_face)

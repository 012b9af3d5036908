use Rattle.homology.proofs.Common.{dart_number, ◌≡◌, ℕ, List, length, refl, ap, sym, ◌∙◌, arith, sides_in_table, face_at}
use Rattle.homology.proofs.AlongLemmas.{first_sides, round-sides}
use Rattle.homology.proofs.CocycleVerdictLemmas.{added, added_fits, added_size, round_step}
use Rattle.homology.proofs.cocycle_check.sum_round.Goals as goal

pub edge_at-edge-requires : goal.edge_at-edge-requires
edge_at-edge-requires c =
    (sides_in_table c.args.faces.now c.args.sides.now (record { face = c.args.face; at = c.loop-at.at }) c.requires.table).0
    (record { face = c.requires.face; place = omega (arith, c.loop-at-test.true, c.sides-at-end.ensures) })

pub overflow_add-sum : goal.overflow_add-sum
overflow_add-sum c = grind (arith, added_fits)

pub loop-at-init : goal.loop-at-init
loop-at-init c = (omega arith, λ number are. refl)

pub loop-at-preserved : goal.loop-at-preserved
loop-at-preserved c = grind (arith, added, added_size, round_step)

pub returns : goal.returns
returns c = λ number are.
    let ring : List ℕ = face_at c.args.faces.now c.args.face.0 in
    let all : c.loop-at.at ≡ length ring = omega (arith, c.loop-at-test.false, c.loop-at.auto.at-end, c.sides-at-end.ensures) in
    c.loop-at.invariant.1 number are ∙ ap (first_sides (dart_number number) ring) all ∙ sym (round-sides (dart_number number) ring)

use Rattle.homology.proofs.Common.{dart_number, along, MOST_NUMBER, ◌≡◌, ◌+◌, ◌*◌, ◌≤◌, sym, ◌∙◌, subst, arith, ℤ, to_z, of_z, w64, ◌+ℤ◌, common_steps, unsigned_abs}
use Rattle.homology.proofs.TallyLemmas.{walk_edge}
use Rattle.homology.proofs.CocycleVerdictLemmas.{added, added_fits, added_size, along_step, along_start}
use Rattle.homology.proofs.cocycle_check.sum_along.Goals as goal

pub edge_between-edge-requires : goal.edge_between-edge-requires
edge_between-edge-requires c =
    walk_edge c.args.faces.now c.args.sides.now c.args.walk.now c.loop-dart.dart c.at-from.result.0 c.at.result.0 c.requires.table
    c.requires.walk (omega (arith, c.loop-dart-test.true, c.darts-dart-end.ensures.count)) c.at-from.ensures c.at.ensures

pub overflow_add-sum : goal.overflow_add-sum
overflow_add-sum c = grind (arith, added_fits)

pub loop-dart-init : goal.loop-dart-init
loop-dart-init c = (omega arith, λ number are. sym (along_start (dart_number number) c.args.walk.now))

pub loop-dart-preserved : goal.loop-dart-preserved
loop-dart-preserved c =
    let s : ℤ = to_z w64 c.loop-dart.sum-bits in
    let r : ℤ = c.number_of_dart-sum.result in
    let is : to_z w64 (of_z w64 (s +ℤ to_z w64 (of_z w64 r))) ≡ s +ℤ r = grind (arith, added) in (
      subst (λ z. unsigned_abs z ≤ MOST_NUMBER * (c.loop-dart.dart + 1)) (sym is)
          (added_size s r c.loop-dart.dart c.loop-dart.invariant.0 c.number_of_dart-sum.ensures.small),
      λ number are.
          is ∙ along_step c.args.faces.now c.args.sides.now c.args.of_edge.now number c.args.walk.now c.loop-dart.dart
          c.edge_between-edge.result.0 c.at-from.result.0 c.at.result.0 s r c.requires.table are c.edge_between-edge.ensures.found
          c.edge_between-edge.ensures.ends
          (omega (arith, c.loop-dart-test.true, c.darts-dart-end.ensures.count, c.requires.walk.starts)) c.at-from.ensures c.at.ensures
          (c.loop-dart.invariant.1 number are) c.number_of_dart-sum.ensures.number,
    )

pub returns : goal.returns
returns c = grind (arith, common_steps, along)

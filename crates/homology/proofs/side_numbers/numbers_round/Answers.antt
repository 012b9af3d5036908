use Rattle.homology.proofs.Common.{MOST_NUMBER, ◌≡◌, ℤ, to_z, of_z, w64, ◌∙◌, arith, subst, sym, ◌≤◌, common_steps, unsigned_abs}
use Rattle.homology.proofs.SizeLemmas.{sent}
use Rattle.homology.proofs.SideNumberLemmas.{length-side_numbers, side_is, side_more, within_pushed}
use Rattle.homology.proofs.side_numbers.numbers_round.Goals as goal

pub loop-dart-preserved : goal.loop-dart-preserved
loop-dart-preserved c =
    let r : ℤ = c.number_of_dart.result in
    let whole : ℤ = to_z w64 (of_z w64 r) in
    let given : whole ≡ r = sent r (omega (arith, c.number_of_dart.ensures.small)) in (
      within_pushed MOST_NUMBER c.loop-dart.of_side.items c.push.new.self.items whole c.loop-dart.invariant.0
          (subst (λ z. unsigned_abs z ≤ MOST_NUMBER) (sym given) c.number_of_dart.ensures.small) c.in_ok-push.ensures.items,
      λ number are.
          side_more c.args.faces.now number c.loop-dart.of_side.items c.push.new.self.items c.loop-dart.dart whole
          (omega (arith, c.loop-dart-test.true, c.total-dart-end.ensures))
          (side_is c.args.faces.now c.args.sides.now c.args.of_edge.now number c.loop-dart.dart c.edge_of-edge.result.0
          c.corner_at-from.result.0 whole c.requires.table are (omega (arith, c.loop-dart-test.true, c.total-dart-end.ensures))
          c.edge_of-edge.ensures.found (c.edge_of-edge.ensures.dart c.args.faces.now c.requires.table) c.corner_at-from.ensures
          (given ∙ c.number_of_dart.ensures.number))
          c.in_ok-push.ensures.items (c.loop-dart.invariant.1 number are),
    )

pub returns-clause-numbers : goal.returns-clause-numbers
returns-clause-numbers c = grind (arith, common_steps, length-side_numbers)

pub returns-clause-small : goal.returns-clause-small
returns-clause-small c = c.loop-dart.invariant.0

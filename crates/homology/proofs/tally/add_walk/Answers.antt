use Rattle.homology.proofs.Common.{along, share, GrewBy, ◌≡◌, ℕ, suc, ◌≤◌, List, take, refl, subst, sym, ◌∙◌, arith, ℤ, to_z, of_z, w64, to_z-of_z, take_all, unsigned_abs}
use Rattle.homology.proofs.TallyLemmas.{walk_edge, walk_room, walk_size, walk_start, walk_step}
use Rattle.homology.proofs.tally.add_walk.Goals as goal

pub edge_between-edge-requires : goal.edge_between-edge-requires
edge_between-edge-requires c =
    walk_edge c.args.faces.now c.args.sides.now c.args.walk.now c.loop-dart.dart c.at-from.result.0 c.at.result.0 c.requires.table
    c.requires.walk (omega (arith, c.loop-dart-test.true, c.darts-dart-end.ensures.count)) c.at-from.ensures c.at.ensures

pub add_dart-requires-clause-room : goal.add_dart-requires-clause-room
add_dart-requires-clause-room c =
    let amount : ℤ = to_z w64 (of_z w64 c.args.amount) in
    let same : amount ≡ c.args.amount = to_z-of_z w64 c.args.amount c.ranges.amount in
    walk_room c.args.sides.now c.args.walk.now c.loop-dart.dart amount c.args.tally.now c.loop-dart.tally c.edge_between-edge.result.0
    c.loop-dart.invariant c.edge_between-edge.ensures.found c.requires.room
    (subst (λ z. unsigned_abs z ≤ 1) (sym same) c.requires.small)
    (omega (arith, c.loop-dart-test.true, c.darts-dart-end.ensures.few))

pub loop-dart-init : goal.loop-dart-init
loop-dart-init c = walk_start c.args.sides.now c.args.walk.now (to_z w64 (of_z w64 c.args.amount)) c.args.tally.now

pub loop-dart-preserved : goal.loop-dart-preserved
loop-dart-preserved c =
    walk_step c.args.faces.now c.args.sides.now c.args.walk.now c.loop-dart.dart (to_z w64 (of_z w64 c.args.amount))
    (to_z w64 (of_z w64 c.args.amount))
    c.args.tally.now c.loop-dart.tally c.add_dart.new.tally c.edge_between-edge.result.0 c.at-from.result.0 c.at.result.0 c.requires.table
    c.edge_between-edge.ensures.found c.edge_between-edge.ensures.ends
    (c.loop-dart.auto.tally ∙ c.requires.long) c.loop-dart.invariant
    (omega (arith, c.loop-dart-test.true, c.darts-dart-end.ensures.count, c.requires.walk.starts)) c.at-from.ensures c.at.ensures
    refl c.add_dart.ensures

pub returns-clause-grew : goal.returns-clause-grew
returns-clause-grew c =
    let walk : List ℕ = c.args.walk.now in
    let whole : take (suc c.loop-dart.dart) walk ≡ walk = take_all (suc c.loop-dart.dart) walk
    (omega (arith, c.loop-dart-test.false, c.darts-dart-end.ensures.count, c.requires.walk.starts)) in
    let all : GrewBy c.args.sides.now (λ low high. along (share (to_z w64 (of_z w64 c.args.amount)) low high) walk) c.args.tally.now
    c.loop-dart.tally = grind (arith, along) in
    subst (λ (z : ℤ). GrewBy c.args.sides.now (λ low high. along (share z low high) walk) c.args.tally.now c.loop-dart.tally)
    (to_z-of_z w64 c.args.amount c.ranges.amount) all

pub returns-clause-size : goal.returns-clause-size
returns-clause-size c = λ bound within.
    let amount : ℤ = to_z w64 (of_z w64 c.args.amount) in
    walk_size c.args.sides.now c.args.walk.now c.loop-dart.dart amount c.args.tally.now c.loop-dart.tally bound c.loop-dart.invariant
    c.requires.long within
    (subst (λ z. unsigned_abs z ≤ 1) (sym (to_z-of_z w64 c.args.amount c.ranges.amount)) c.requires.small)
    (omega (arith, c.loop-dart.auto.dart-end, c.darts-dart-end.ensures.few))

use Rattle.tree_cotree.proofs.Common.{Rotations, ◌≡◌, ◌+◌, ◌≤◌, ℕ, List, length, sym, ◌∙◌, arith, eqb-true, common_steps, maps_of, node_in, turn_in, crosses, dart_numbers, waiting_darts}
use Rattle.tree_cotree.proofs.SearchLemmas.{IsVisiting, turning, visit_start, visit_more, visit_within, visit_found, rebound, added_on, crossed_round, crossed_all}
use Rattle.tree_cotree.proofs.search.visit.Goals as goal

pub loop-turn-init : goal.loop-turn-init
loop-turn-init c = grind (arith, common_steps, visit_start)

pub cross-requires-clause-below : goal.cross-requires-clause-below
cross-requires-clause-below c = grind arith

pub cross-requires-clause-dart : goal.cross-requires-clause-dart
cross-requires-clause-dart c =
    visit_within c.args.first.0 c.loop-turn.dart.0 c.loop-turn._turn
    (turning c.darts-turn-end.ensures.valid c.args.graph.now.nodes) c.requires.dart c.loop-turn.invariant.at

pub cross-requires-clause-found : goal.cross-requires-clause-found
cross-requires-clause-found c =
    visit_found (turning c.darts-turn-end.ensures.valid c.args.graph.now.nodes) c.requires.dart c.requires.found c.loop-turn.invariant

pub cross-requires-clause-order : goal.cross-requires-clause-order
cross-requires-clause-order c = grind (arith, rebound)

pub turn-dart-requires : goal.turn-dart-requires
turn-dart-requires c =
    visit_within c.args.first.0 c.loop-turn.dart.0 c.loop-turn._turn
    (turning c.darts-turn-end.ensures.valid c.args.graph.now.nodes) c.requires.dart c.loop-turn.invariant.at

pub loop-turn-preserved : goal.loop-turn-preserved
loop-turn-preserved c =
    visit_more c.turn-dart.result.0 c.loop-turn.invariant (rebound (length c.args.search.now.from.items)
    c.loop-turn.invariant.is_order.long c.in_ok-cross.ensures.order)
    c.in_ok-cross.ensures.added c.in_ok-cross.ensures.crossed c.turn-dart.ensures.turn

pub returns-then-eq-clause-crossed : goal.returns-then-eq-clause-crossed
returns-then-eq-clause-crossed c =
    let maps : Rotations = maps_of c.args.graph.now in
    let node : ℕ → ℕ = node_in c.args.graph.now in
    let turn : ℕ → ℕ = turn_in c.args.graph.now in
    let allowed = crosses c.args.graph.now in
    let new : List ℕ = dart_numbers c.cross.new.search.order.items in
    let more : List ℕ = waiting_darts c.cross.new.search.waiting.far.items c.cross.new.search.waiting.near.items in
    let k : ℕ = c.loop-turn._turn in
    let visited : IsVisiting maps node allowed turn (length c.args.search.now.from.items) c.args.root
    (dart_numbers c.args.search.now.order.items)
    (waiting_darts c.args.search.now.waiting.far.items c.args.search.now.waiting.near.items) new more
    c.cross.new.search.from.items c.args.first.0 c.turn-dart.result.0 (k + 1) =
    visit_more c.turn-dart.result.0 c.loop-turn.invariant (rebound (length c.args.search.now.from.items)
    c.loop-turn.invariant.is_order.long c.in_ok-cross.ensures.order)
    c.in_ok-cross.ensures.added c.in_ok-cross.ensures.crossed c.turn-dart.ensures.turn in
    let home : c.turn-dart.result.0 ≡ c.args.first.0 = eqb-true c.turn-dart.result.0 c.args.first.0 (sym c.eq.ensures ∙ c.if-eq.true) in
    crossed_round allowed new c.args.first.0 (k + 1) (turning c.darts-turn-end.ensures.valid c.args.graph.now.nodes) c.requires.dart
    visited.crossed (omega arith, sym visited.at ∙ home)

pub returns-clause-crossed : goal.returns-clause-crossed
returns-clause-crossed c =
    let maps : Rotations = maps_of c.args.graph.now in
    let all : maps.darts ≤ c.loop-turn._turn = omega (arith, c.loop-turn-test.false, c.darts-turn-end.ensures.count) in
    crossed_all (crosses c.args.graph.now) (dart_numbers c.loop-turn.search.order.items)
    c.args.first.0 c.loop-turn._turn (turning c.darts-turn-end.ensures.valid c.args.graph.now.nodes) c.requires.dart
    c.loop-turn.invariant.crossed all

pub returns-then-eq-clause-order : goal.returns-then-eq-clause-order
returns-then-eq-clause-order c = grind (arith, rebound)

pub returns-then-eq-clause-added : goal.returns-then-eq-clause-added
returns-then-eq-clause-added c = grind (arith, added_on)

pub returns-clause-order : goal.returns-clause-order
returns-clause-order c = c.loop-turn.invariant.is_order

pub returns-clause-added : goal.returns-clause-added
returns-clause-added c = c.loop-turn.invariant.added

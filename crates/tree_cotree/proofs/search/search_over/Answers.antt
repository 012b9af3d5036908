use Rattle.tree_cotree.proofs.Common.{◌≡◌, ◌≤◌, ℕ, List, length, ap, arith, common_steps, length-map, length-append, DartName, dart_numbers, waiting_darts, IsTakenOut}
use Rattle.tree_cotree.proofs.SearchLemmas.{order_few, rebound}
use Rattle.tree_cotree.proofs.WaitingLemmas.{taken, none_waits, taken_longer, taken_dart, taken_found, underway_more, underway_done}
use Rattle.tree_cotree.proofs.search.search_over.Goals as goal
use Rattle.tree_cotree.proofs.search.search_over.Goals.{In-Some}

-- the dart that is visited was one of those that wait
first_taken : (c : In-Some) → IsTakenOut (waiting_darts c.loop-search.search.waiting.far.items c.loop-search.search.waiting.near.items)
    (waiting_darts c.take.new.self.far.items c.take.new.self.near.items) c.in-Some.first.0
first_taken c = taken c.in_ok-first.field-0 c.in-Some.first _ _ c.in-Some.is c.in_ok-first.ensures.some

pub visit-requires-clause-dart : goal.visit-requires-clause-dart
visit-requires-clause-dart c = taken_dart c.loop-search.invariant (first_taken (goal.at.visit-requires-clause-dart c).In-Some)

pub visit-requires-clause-below : goal.visit-requires-clause-below
visit-requires-clause-below c = grind arith

pub visit-requires-clause-found : goal.visit-requires-clause-found
visit-requires-clause-found c = taken_found c.loop-search.invariant (first_taken (goal.at.visit-requires-clause-found c).In-Some)

pub visit-requires-clause-order : goal.visit-requires-clause-order
visit-requires-clause-order c = grind (arith, rebound)

pub loop-search-smaller : goal.loop-search-smaller
loop-search-smaller c =
    let xs : List DartName = c.loop-search.search.order.items in
    let ys : List DartName = c.visit.new.search.order.items in
    let rest : List ℕ = waiting_darts c.take.new.self.far.items c.take.new.self.near.items in
    let taken_one = first_taken (goal.at.loop-search-smaller c).In-Some in
    let few : length (dart_numbers ys) ≤ c.args.bound = order_few (rebound c.args.bound c.loop-search.invariant.is_order.long
    c.in_ok-visit.ensures.order) c.requires.below in
    let added = c.in_ok-visit.ensures.added in
    let numbers : (ds : List DartName) → length (dart_numbers ds) ≡ length ds = λ ds. length-map ds (λ (x : DartName). x.0) in
    omega (
      arith,
      few,
      taken_longer taken_one,
      numbers xs,
      numbers ys,
      ap (λ (ts : List ℕ). length ts) added.order,
      ap (λ (ts : List ℕ). length ts) added.waits,
      length-append (dart_numbers xs) added.added,
      length-append rest added.added,
    )

pub loop-search-preserved : goal.loop-search-preserved
loop-search-preserved c =
    underway_more c.loop-search.invariant (first_taken (goal.at.loop-search-preserved c).In-Some) (rebound c.args.bound
    c.loop-search.invariant.is_order.long c.in_ok-visit.ensures.order) c.in_ok-visit.ensures.added c.in_ok-visit.ensures.crossed

pub returns : goal.returns
returns c = grind (arith, common_steps, underway_done, none_waits)

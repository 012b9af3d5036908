use Rattle.move_lifting.proofs.Common.{spokes_in_front, IsFreelyPath, HasLoopIn, TrackView, MOST_LIFTED_DARTS, AreShortAround, some-turn, after_path_step, PathStep, ◌≡◌, ◌⊎◌, ℕ, ◌+◌, ◌-◌, ◌*◌, ◌<◌, ◌≤◌, List, length, ap, sym, ◌∙◌, subst, arith, IfOk-weaker, All, slice_index, IsQuad}
use Rattle.std.proofs.Common.{Some}
use Rattle.move_lifting.proofs.ContractLemmas.{spur_follows, turn_follows, loop_starts, loop_follows, front_below, both_ok}
use Rattle.move_lifting.proofs.ShortStepLemmas.{front_short}
use Rattle.move_lifting.proofs.contracting.follow.Goals as goal
use Rattle.move_lifting.proofs.contracting.follow.Goals.{In-Turn, After-deref}

pub returns-in_default-clause-spokes : goal.returns-in_default-clause-spokes
returns-in_default-clause-spokes c = λ next e.
    spur_follows c.requires.looping.cut.surface
    c.in_default.field-0
    c.args.path.now next c.args.track.walk
    (subst (λ (step : PathStep). after_path_step c.args.looping.now.cut.now.polygon.now.places step c.args.path.now ≡ Some next)
    c.in_default.is e) c.requires.walk c.requires.spokes

pub returns-then-partner-last-clause-spokes : goal.returns-then-partner-last-clause-spokes
returns-then-partner-last-clause-spokes c = λ next e.
    turn_follows c.requires.looping.cut.surface
    c.in-Turn.at c.in-Turn.side
    c.in-Turn.partner c.in-Turn.up c.args.path.now next c.args.track.walk
    (subst (λ (step : PathStep). after_path_step c.args.looping.now.cut.now.polygon.now.places step c.args.path.now ≡ Some next)
    c.in-Turn.is e) c.requires.walk
    (λ own. c.if-side-last.true (own ∙ ap (λ n. n - 1) (sym c.degree-last.ensures.degree)))
    (λ other. c.if-partner-last.true (other ∙ ap (λ n. n - 1) (sym c.degree-last.ensures.degree))) c.requires.spokes

-- the turn is allowed, and so it is across a quad
turn : (c : In-Turn) → (c.in-Turn.at + 1 < length c.args.path.now)
    × IsQuad c.args.looping.now.cut.now.polygon.now.places
    c.in-Turn.side c.in-Turn.partner
turn c =
    some-turn c.args.looping.now.cut.now.polygon.now.places c.in-Turn.side c.in-Turn.partner c.in-Turn.up c.in-Turn.at c.args.path.now
    c.requires.allowed.0
    (subst (λ (step : PathStep). after_path_step c.args.looping.now.cut.now.polygon.now.places step c.args.path.now
    ≡ Some c.requires.allowed.0) c.in-Turn.is c.requires.allowed.1)

below : (c : In-Turn) → (c.in-Turn.side < c.args.looping.now.cut.now.polygon.now.degree)
    × (c.in-Turn.partner < c.args.looping.now.cut.now.polygon.now.degree)
below c = grind (arith, turn)

pub front_of_loop-requires-clause-within : goal.front_of_loop-requires-clause-within
front_of_loop-requires-clause-within c = omega (arith, (turn (goal.at.front_of_loop-requires-clause-within c).In-Turn).0)

pub front_of_loop-requires-clause-side : goal.front_of_loop-requires-clause-side
front_of_loop-requires-clause-side c =
    omega (arith, (below (goal.at.front_of_loop-requires-clause-side c).In-Turn).0, c.degree-last.ensures.degree, c.degree-last.type_inv)

pub front_of_loop-requires-clause-partner : goal.front_of_loop-requires-clause-partner
front_of_loop-requires-clause-partner c =
    omega (arith, (below (goal.at.front_of_loop-requires-clause-partner c).In-Turn).1, c.degree-last.ensures.degree, c.degree-last.type_inv)

-- the spokes that are made stand in front of the loop
front_is : (c : After-deref)
    → c.deref.result.now ≡ spokes_in_front (c.args.looping.now.cut.now.polygon.now.degree - 1) c.args.path.now c.in-Turn.at c.in-Turn.side
    c.in-Turn.partner
front_is c = grind arith

-- the quad is at the last side
which : (c : After-deref)
    → (c.in-Turn.side ≡ c.args.looping.now.cut.now.polygon.now.degree - 1)
    ⊎ (c.in-Turn.partner ≡ c.args.looping.now.cut.now.polygon.now.degree - 1)
which c = grind arith

-- the ways round them are short
around : (c : After-deref) (pairs : ℕ) → length c.args.path.now ≤ 2 * pairs
    → AreShortAround c.args.looping.now.cut.now.on.surface.now c.args.looping.now.cut.now.on.split.now
    c.args.looping.now.cut.now.polygon.now c.deref.result.now c.args.path.now (pairs + 1)
around c pairs few =
    let s = c.args.looping.now.cut.now.on.surface.now in
    let split = c.args.looping.now.cut.now.on.split.now in
    let polygon = c.args.looping.now.cut.now.polygon.now in
    let allowed = subst (λ (step : PathStep). after_path_step polygon.places step c.args.path.now ≡ Some c.requires.allowed.0) c.in-Turn.is
    c.requires.allowed.1 in
    subst (λ (l : List ℕ). AreShortAround s split polygon l c.args.path.now (pairs + 1)) (sym (front_is c))
    (front_short c.requires.looping.cut.surface c.in-Turn.up c.in-Turn.at c.in-Turn.side c.in-Turn.partner c.args.path.now
    c.requires.allowed.0 pairs allowed c.requires.below (which c) few)

pub put_loop-requires-clause-front : goal.put_loop-requires-clause-front
put_loop-requires-clause-front c =
    let at = goal.at.put_loop-requires-clause-front c in
    subst (λ (l : List ℕ). All (λ i. i < c.args.looping.now.cut.now.polygon.now.degree) l) (sym (front_is at.After-deref))
    (front_below c.requires.looping.cut.surface
    c.in-Turn.at c.in-Turn.side
    c.in-Turn.partner c.args.path.now c.requires.below (turn at.In-Turn).1)

pub returns-clause-starts : goal.returns-clause-starts
returns-clause-starts c =
    both_ok c.put_loop.result (λ (x : TrackView). 0 < length x.walk)
    (λ (x : TrackView). HasLoopIn c.args.looping.now.cut.now.on.surface.now c.args.looping.now.cut.now.on.split.now
    c.args.looping.now.cut.now.polygon.now c.deref.result.now c.in-Turn.up c.args.track.walk x.walk)
    (λ (x : TrackView). slice_index x.walk 0 ≡ slice_index c.args.track.walk 0)
    (λ x there puts.
    loop_starts c.requires.looping.cut.surface
    c.in-Turn.up c.args.path.now
    c.deref.result.now c.args.track.walk x.walk c.requires.below there puts c.requires.spokes)
    c.put_loop.ensures.some c.put_loop.ensures.freely

pub returns-clause-spokes : goal.returns-clause-spokes
returns-clause-spokes c =
    let at = (goal.at.returns-clause-spokes c).After-deref in
    both_ok c.put_loop.result (λ (x : TrackView). 0 < length x.walk)
    (λ (x : TrackView). HasLoopIn c.args.looping.now.cut.now.on.surface.now c.args.looping.now.cut.now.on.split.now
    c.args.looping.now.cut.now.polygon.now c.deref.result.now c.in-Turn.up c.args.track.walk x.walk)
    (λ (x : TrackView). (next : List ℕ) → after_path_step c.args.looping.now.cut.now.polygon.now.places c.args.step c.args.path.now
    ≡ Some next
    → IsFreelyPath c.args.looping.now.cut.now.on.surface.now c.args.looping.now.cut.now.on.split.now c.args.looping.now.cut.now.polygon.now
    next x.walk)
    (λ x there puts next e.
    loop_follows c.requires.looping.cut.surface
    c.in-Turn.at c.in-Turn.side
    c.in-Turn.partner c.in-Turn.up c.args.path.now next c.deref.result.now c.args.track.walk x.walk
    (subst (λ (step : PathStep). after_path_step c.args.looping.now.cut.now.polygon.now.places step c.args.path.now ≡ Some next)
    c.in-Turn.is e) c.requires.walk c.requires.below (which at) (front_is at)
    there puts c.requires.spokes)
    c.put_loop.ensures.some c.put_loop.ensures.freely

-- where the loop goes in, the ways are short
pub put_loop-requires-clause-short : goal.put_loop-requires-clause-short
put_loop-requires-clause-short c = record {
  path = c.args.path.now;
  below = c.requires.below;
  few = c.requires.few;
  spokes = c.requires.spokes;
  around = around (goal.at.put_loop-requires-clause-short c).After-deref MOST_LIFTED_DARTS c.requires.few;
}

pub returns-clause-peak : goal.returns-clause-peak
returns-clause-peak c =
    IfOk-weaker c.put_loop.result _ _
    (λ x keeps pairs few.
    keeps c.args.path.now (pairs + 1) c.requires.spokes (around (goal.at.returns-clause-peak c).After-deref pairs few))
    c.put_loop.ensures.peak

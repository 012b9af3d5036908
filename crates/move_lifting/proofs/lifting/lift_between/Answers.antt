use Rattle.move_lifting.proofs.Common.{darts_of, IsLedFrom, IsCutSurface, HasLowPeak, IsLedOn, GoesOn, TrackView, spokes_along, PathLeads, ◌≡◌, ℕ, ◌+◌, ◌*◌, ◌≤◌, true, List, [], length, drop, sym, ap, ◌∙◌, subst, arith, both_ways, common_steps, length-drop, PeakedMoves, numbers, darts}
use Rattle.move_lifting.proofs.BoundLemmas.{IsShort, short_walk, three_darts, is_few, is_low}
use Rattle.move_lifting.proofs.ExpandLemmas.{length-numbers}
use Rattle.move_lifting.proofs.LiftLemmas.{IsClosed, closed_is, IsLedOff, off_cotree, second_left, second_stays, second_there, homotopic_leaves_nothing, steps_to_nothing, begun_freely}
use Rattle.move_lifting.proofs.ShortStepLemmas.{walk_spokes}
use Rattle.move_lifting.proofs.lifting.lift_between.Goals as goal
use Rattle.move_lifting.proofs.lifting.lift_between.Goals.{In_ok-begun, In_ok-closed, In_ok-reduction}

-- the closed walk leads on from the first walk, with the second behind it
closed : (c : In_ok-closed)
    → IsClosed c.args.on.now.surface.now.mesh c.args.first.now (numbers c.in_ok-closed.closed.items) c.args.second.now c.in_ok-closed.moves
closed c =
    closed_is c.args.on.now.surface.now.mesh c.args.first.now c.args.second.now c.in_ok-closed.closed.items c.in_ok-closed.moves
    c.in_ok-joined.joined c.requires.walks c.in_ok-joined.ensures.leads c.in_ok-joined.ensures.some c.in_ok-joined.ensures.last
    c.in_ok-closed.ensures.vertices c.in_ok-closed.ensures.moves

led : (c : In_ok-closed)
    → IsLedFrom c.args.on.now.surface.now.mesh c.darts-behind.result (numbers c.in_ok-closed.closed.items) c.in_ok-closed.moves
led c = record {
  first = c.args.first.now;
  rest = drop 1 c.args.second.now;
  starts = c.requires.walks.first_walk;
  long = length-drop 1 c.args.second.now ∙ sym c.darts-behind.ensures.count;
  leads = (closed c).led;
  some = (closed c).some;
}

-- it has few darts
few_darts : (c : In_ok-closed) → darts (numbers c.in_ok-closed.closed.items) ≤ darts c.args.first.now + darts c.args.second.now
few_darts c = omega (arith, c.in_ok-joined.ensures.long, ap (λ (l : List ℕ). length l) c.in_ok-closed.ensures.vertices)

pub lead_in_passes-requires-clause-led : goal.lead_in_passes-requires-clause-led
lead_in_passes-requires-clause-led c = led (goal.at.lead_in_passes-requires-clause-led c).In_ok-closed

pub returns-then-len-eq1-clause-list : goal.returns-then-len-eq1-clause-list
returns-then-len-eq1-clause-list c = grind (arith, second_there, closed, length-numbers)

pub of-requires-clause-walk : goal.of-requires-clause-walk
of-requires-clause-walk c =
    rw c.deref.ensures.value (closed (goal.at.of-requires-clause-walk c).In_ok-closed).walk

pub lead_in_passes-requires-2-clause-led : goal.lead_in_passes-requires-2-clause-led
lead_in_passes-requires-2-clause-led c = led (goal.at.lead_in_passes-requires-2-clause-led c).In_ok-closed

pub returns-then-degree-eq0-clause-list : goal.returns-then-degree-eq0-clause-list
returns-then-degree-eq0-clause-list c =
    let k = closed (goal.at.returns-then-degree-eq0-clause-list c).In_ok-closed in
    let off : IsLedOff c.args.on.now.surface.now c.args.on.now.split.now c.args.first.now (numbers c.in_ok-closed.closed.items)
    c.args.second.now c.in_ok-closed.moves c.in_ok-tree.tree =
    off_cotree c.in_ok-tree.tree c.darts-behind.result c.requires.walks k c.darts-behind.ensures.count c.in_ok-tree.ensures.led in
    let sphere : c.args.on.now.split.now.genus ≡ 0 =
    omega (arith, c.requires.cut.degree, c.degree.ensures.degree, c.if-degree-eq0.true) in
    rw c.into_moves.ensures (second_left c.args.on.now.surface.now c.args.on.now.split.now c.in_ok-tree.ensures.valid c.requires.on.split
    sphere c.args.first.now (numbers c.in_ok-closed.closed.items) c.args.second.now c.in_ok-closed.moves c.in_ok-tree.tree
    c.requires.walks.first_walk c.requires.walks.second_walk.starts c.requires.walks.ends.starts k.led off.goes
    c.in_ok-tree.ensures.off_cotree c.in_ok-tree.ensures.no_spur c.in_ok-tree.ensures.led.some off.last)

-- the polygon is cut from the surface, and has sides
is_cut : (c : In_ok-reduction) → IsCutSurface c.args.on.now.surface.now c.args.on.now.split.now c.args.polygon.now
is_cut c = grind arith

-- the steps of the reduction go round the wheel that it has
round_wheel : (c : In_ok-reduction)
    → PathLeads c.in_ok-reduction.reduction.wheel c.in_ok-reduction.reduction.spokes.items c.in_ok-reduction.reduction.steps.items
    c.in_ok-reduction.ensures.reduction.end
round_wheel c = grind arith

-- it begins with at most two spokes for each dart
few_spokes : (c : In_ok-reduction)
    → IsClosed c.args.on.now.surface.now.mesh c.args.first.now (numbers c.in_ok-closed.closed.items) c.args.second.now c.in_ok-closed.moves
    → length c.in_ok-reduction.reduction.spokes.items ≤ 2 * darts (numbers c.in_ok-closed.closed.items)
few_spokes c k =
    let red = c.in_ok-reduction.ensures.reduction in
    let read : numbers c.deref.result.now ≡ numbers c.in_ok-closed.closed.items = ap numbers c.deref.ensures.value in
    omega (
      arith,
      ap (λ (l : List ℕ). length l) (red.spokes.path_is ∙ ap (spokes_along red.spokes.spokes) read),
      walk_spokes c.args.on.now.surface.now c.requires.valid c.args.polygon.now red.spokes.spokes red.spokes.free
          (numbers c.in_ok-closed.closed.items) k.walk,
    )

pub returns-then-not-leaves_nothing-clause-list : goal.returns-then-not-leaves_nothing-clause-list
returns-then-not-leaves_nothing-clause-list c = λ homotopic.
    let at = goal.at.returns-then-not-leaves_nothing-clause-list c in
    let k = closed at.In_ok-closed in
    let red = c.in_ok-reduction.ensures.reduction in
    let none : red.end ≡ [] =
    homotopic_leaves_nothing (is_cut at.In_ok-reduction) c.args.first.now (numbers c.in_ok-closed.closed.items) c.args.second.now
    (numbers c.deref.result.now) c.in_ok-closed.moves c.in_ok-reduction.reduction red (ap numbers c.deref.ensures.value)
    c.requires.walks.first_walk k.some c.requires.walks.second_walk.starts k.meets k.led homotopic in
    let yes : c.leaves_nothing.result ≡ true = (c.leaves_nothing.ensures red.end (round_wheel at.In_ok-reduction)).1 none in
    both_ways c.leaves_nothing.result c.if-not-leaves_nothing.true yes

pub contract-requires-clause-reduction : goal.contract-requires-clause-reduction
contract-requires-clause-reduction c =
    let at = goal.at.contract-requires-clause-reduction c in
    let red = c.in_ok-reduction.ensures.reduction in
    let none : red.end ≡ [] = (c.leaves_nothing.ensures red.end (round_wheel at.In_ok-reduction)).0 c.if-not-leaves_nothing.false in
    steps_to_nothing (is_cut at.In_ok-reduction) (numbers c.in_ok-closed.closed.items) (numbers c.deref.result.now)
    c.in_ok-reduction.reduction red (ap numbers c.deref.ensures.value) (closed at.In_ok-closed).walk none

pub contract-requires-clause-few : goal.contract-requires-clause-few
contract-requires-clause-few c = grind (arith, few_darts, few_spokes, closed)

pub contract-requires-clause-behind : goal.contract-requires-clause-behind
contract-requires-clause-behind c = omega (arith, c.requires.few, c.darts-behind.ensures.count)

-- the track that is contracted comes of the closed walk
led_off : (c : In_ok-begun)
    → IsClosed c.args.on.now.surface.now.mesh c.args.first.now (numbers c.in_ok-closed.closed.items) c.args.second.now c.in_ok-closed.moves
    → IsLedOff c.args.on.now.surface.now c.args.on.now.split.now c.args.first.now (numbers c.in_ok-closed.closed.items)
    c.args.second.now c.in_ok-closed.moves c.in_ok-begun.begun
led_off c k =
    off_cotree c.in_ok-begun.begun c.darts-behind.result c.requires.walks k c.darts-behind.ensures.count c.in_ok-begun.ensures.led

pub contract-requires-clause-led : goal.contract-requires-clause-led
contract-requires-clause-led c = grind (arith, led_off, closed)

pub contract-requires-clause-closed : goal.contract-requires-clause-closed
contract-requires-clause-closed c = grind (arith, led_off, closed)

pub contract-requires-clause-spokes : goal.contract-requires-clause-spokes
contract-requires-clause-spokes c =
    let at = goal.at.contract-requires-clause-spokes c in
    let k = closed at.In_ok-closed in
    let off = led_off at.In_ok-begun k in
    begun_freely (is_cut at.In_ok-reduction) c.args.first.now (numbers c.in_ok-closed.closed.items) c.args.second.now
    (numbers c.deref.result.now) c.in_ok-closed.moves c.in_ok-begun.begun c.in_ok-reduction.reduction c.in_ok-reduction.ensures.reduction
    (ap numbers c.deref.ensures.value) c.requires.walks.first_walk k.some k.meets k.led off.begun c.in_ok-begun.ensures.off_cotree
    off.last

pub returns-clause-list : goal.returns-clause-list
returns-clause-list c =
    let at = goal.at.returns-clause-list c in
    rw c.into_moves-list.ensures (second_stays c.in_ok-contracted.contracted (led_off at.In_ok-begun (closed at.In_ok-closed)).begun
    c.requires.walks.second_walk.starts
    (subst (λ (n : ℕ). GoesOn c.args.on.now.surface.now.mesh n c.in_ok-begun.begun.walk c.in_ok-begun.begun.list
    c.in_ok-contracted.contracted.walk c.in_ok-contracted.contracted.list) c.darts-behind.ensures.count c.in_ok-contracted.ensures.leads)
    c.in_ok-contracted.ensures.nothing)

-- the peak is low
pub returns-then-len-eq1-clause-low : goal.returns-then-len-eq1-clause-low
returns-then-len-eq1-clause-low c = grind (arith, is_low, three_darts)

-- what is left of the closed walk off the cotree is short
left_short : (c : In_ok-closed) (track : TrackView)
    → IsLedOn c.args.on.now.surface.now c.args.on.now.split.now c.darts-behind.result (numbers c.in_ok-closed.closed.items)
    c.in_ok-closed.moves track.walk track.list
    → IsShort (darts (numbers c.in_ok-closed.closed.items) * darts_of c.args.on.now.surface.now) c.darts-behind.result track.walk
    c.in_ok-closed.moves track.list
left_short c track led =
    short_walk c.requires.valid c.requires.on.split (closed c).walk led

-- and so its peak is low
left_low : (c : In_ok-closed) (track : TrackView)
    → IsLedOn c.args.on.now.surface.now c.args.on.now.split.now c.darts-behind.result (numbers c.in_ok-closed.closed.items)
    c.in_ok-closed.moves track.walk track.list
    → HasLowPeak (darts_of c.args.on.now.surface.now) (darts c.args.first.now + darts c.args.second.now) track.list
left_low c track led =
    is_low (darts_of c.args.on.now.surface.now) (darts c.args.first.now + darts c.args.second.now)
    (darts (numbers c.in_ok-closed.closed.items)) track.list.peak (three_darts c.args.on.now.surface.now c.requires.valid) (few_darts c)
    (omega (
      arith,
      (left_short c track led).peak,
      c.in_ok-joined.ensures.peak,
      ap (λ (l : PeakedMoves). l.peak) c.in_ok-closed.ensures.moves,
      c.darts-behind.ensures.count,
    ))

pub returns-then-degree-eq0-clause-low : goal.returns-then-degree-eq0-clause-low
returns-then-degree-eq0-clause-low c = grind (arith, left_low)

pub returns-clause-low : goal.returns-clause-low
returns-clause-low c =
    let at = goal.at.returns-clause-low c in
    let n : ℕ = darts_of c.args.on.now.surface.now in
    let all : ℕ = darts c.args.first.now + darts c.args.second.now in
    let spokes : length c.in_ok-reduction.reduction.spokes.items ≤ 2 * all =
    omega (arith, few_darts at.In_ok-closed, few_spokes at.In_ok-reduction (closed at.In_ok-closed)) in
    let low : 2 * c.in_ok-contracted.contracted.list.peak ≤ (3 * all + 7) * n =
    c.in_ok-contracted.ensures.peak all spokes ((3 * all + 7) * n)
    (left_low at.In_ok-closed c.in_ok-begun.begun c.in_ok-begun.ensures.led)
    (omega (arith, room_left all n, c.darts-behind.ensures.count)) in
    omega (arith, low, ap (λ (l : PeakedMoves). l.peak) c.into_moves-list.ensures)
  where
    room_left : (k n : ℕ) → 3 * ((k + 1) * n) + 4 * n ≡ (3 * k + 7) * n
    room_left k n = omega arith

-- on a sphere the list is short
pub returns-then-len-eq1-clause-short : goal.returns-then-len-eq1-clause-short
returns-then-len-eq1-clause-short c sphere = grind (arith, common_steps, is_few, three_darts)

pub returns-then-degree-eq0-clause-short : goal.returns-then-degree-eq0-clause-short
returns-then-degree-eq0-clause-short c sphere =
    let at = (goal.at.returns-then-degree-eq0-clause-short c).In_ok-closed in
    let s = c.args.on.now.surface.now in
    let short = left_short at c.in_ok-tree.tree c.in_ok-tree.ensures.led in
    is_few (darts_of s) (darts c.args.first.now + darts c.args.second.now) (darts c.args.second.now)
    (darts (numbers c.in_ok-closed.closed.items))
    (length c.in_ok-closed.moves.moves) (length c.into_moves.result.moves)
    (omega (arith, three_darts s c.requires.valid)) (omega arith) (few_darts at)
    (omega (
      arith,
      c.in_ok-joined.ensures.count,
      ap (λ (l : List ℕ). length l) c.in_ok-closed.ensures.vertices,
      ap (λ (l : PeakedMoves). length l.moves) c.in_ok-closed.ensures.moves,
    ))
    (omega (arith, short.moves, ap (λ (l : PeakedMoves). length l.moves) c.into_moves.ensures))

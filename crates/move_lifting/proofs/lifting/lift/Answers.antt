use Rattle.move_lifting.proofs.Common.{places_within, HaveFewerDarts, fewer_darts, left_together, left_apart, left_leads, darts_of, HasLowPeak, IsShortList, LeadsAtPeak, ◌≡◌, ℕ, ◌+◌, ◌*◌, ◌≤◌, length, sym, ap, subst, arith, mul-le-mul_right, common_steps, length-map, FaceList, Homotopic, PeakedMoves, raised, darts, AreWalkPair}
use Rattle.move_lifting.proofs.BoundLemmas.{three_darts, low_around, low_most}
use Rattle.move_lifting.proofs.lifting.lift.Goals as goal
use Rattle.move_lifting.proofs.lifting.lift.Goals.{In_ok-second, In-Some}

-- the trimmed walks go together, and have the fewer darts
together : (c : In_ok-second) → AreWalkPair c.args.surface.now.mesh c.in_ok-first.first c.in_ok-second.second
together c =
    left_together c.args.surface.now.mesh c.args.first.now c.args.second.now c.of-common.result c.in_ok-first.first c.in_ok-second.second
    c.requires.first c.requires.second c.of-common.ensures
    (record { near_is = c.in_ok-first.ensures; far_is = c.in_ok-second.ensures })

fewer : (c : In_ok-second)
    → HaveFewerDarts c.args.first.now c.args.second.now c.in_ok-first.first c.in_ok-second.second c.of-common.result
fewer c = grind (arith, common_steps, fewer_darts)

pub lift_between-requires-clause-walks : goal.lift_between-requires-clause-walks
lift_between-requires-clause-walks c = together (goal.at.lift_between-requires-clause-walks c).In_ok-second

-- the list between leads from the one to the other, and its peak is low
leads : (c : In-Some)
    → LeadsAtPeak c.args.surface.now.mesh c.in_ok-first.first c.in-Some.list c.in_ok-second.second
leads c = grind arith

low : (c : In-Some)
    → HasLowPeak (darts_of c.args.surface.now) (darts c.in_ok-first.first + darts c.in_ok-second.second) c.in-Some.list
low c = grind arith

pub put_back-requires-clause-places : goal.put_back-requires-clause-places
put_back-requires-clause-places c =
    let mesh : FaceList = c.args.surface.now.mesh in
    let at = goal.at.put_back-requires-clause-places c in
    places_within mesh c.in_ok-first.first c.in_ok-second.second c.in-Some.list (together at.In_ok-second).first_walk.starts
    (leads at.In-Some)

-- the peak of the list between is low, and few darts stand around
pub put_back-requires-clause-room : goal.put_back-requires-clause-room
put_back-requires-clause-room c = grind (arith, fewer, low_most, low)

pub returns-in-Some-clause-list : goal.returns-in-Some-clause-list
returns-in-Some-clause-list c =
    let mesh : FaceList = c.args.surface.now.mesh in
    let leads = leads (goal.at.returns-in-Some-clause-list c).In-Some in
    left_leads mesh c.args.first.now c.args.second.now c.of-common.result c.in_ok-first.first c.in_ok-second.second c.in-Some.list
    c.in_ok-whole-in-Some.whole c.requires.first c.requires.second c.of-common.ensures
    (record { near_is = c.in_ok-first.ensures; far_is = c.in_ok-second.ensures }) leads c.in_ok-whole-in-Some.ensures

pub returns-clause-list : goal.returns-clause-list
returns-clause-list c =
    let mesh : FaceList = c.args.surface.now.mesh in
    let apart : Homotopic mesh c.in_ok-first.first c.in_ok-second.second → ⊥ =
    rw c.in-None.is at c.in_ok-list.ensures.list in
    left_apart mesh c.args.first.now c.args.second.now c.of-common.result c.in_ok-first.first c.in_ok-second.second c.requires.first
    c.requires.second c.of-common.ensures (record { near_is = c.in_ok-first.ensures; far_is = c.in_ok-second.ensures }) apart

pub returns-in-Some-clause-low : goal.returns-in-Some-clause-low
returns-in-Some-clause-low c =
    let s = c.args.surface.now in
    let near : ℕ = darts c.in_ok-first.first + darts c.in_ok-second.second in
    let all : ℕ = darts c.args.first.now + darts c.args.second.now in
    let around : ℕ = c.of-common.result.front + c.of-common.result.back in
    let at = goal.at.returns-in-Some-clause-low c in
    let fewer = fewer at.In_ok-second in
    let count : near + 2 * around ≡ all = omega (arith, fewer.in_near, fewer.in_far) in
    let peak : around + c.in-Some.list.peak ≡ c.in_ok-whole-in-Some.whole.peak =
    sym (ap (λ (l : PeakedMoves). l.peak) c.in_ok-whole-in-Some.ensures) in
    subst (λ n. 2 * n ≤ (3 * all + 7) * darts_of s) peak
    (subst (λ n. 2 * (around + c.in-Some.list.peak) ≤ (3 * n + 7) * darts_of s) count
    (low_around (darts_of s) near around c.in-Some.list.peak (three_darts s c.darts-sides.ensures.valid)
    (low at.In-Some)))

-- on a sphere the list is short
pub returns-in-Some-clause-short : goal.returns-in-Some-clause-short
returns-in-Some-clause-short c sphere =
    let s = c.args.surface.now in
    let near : ℕ = darts c.in_ok-first.first + darts c.in_ok-second.second in
    let all : ℕ = darts c.args.first.now + darts c.args.second.now in
    let short : IsShortList (darts_of s) near c.in-Some.list =
    rw c.in-Some.is at (c.in_ok-list.ensures.short sphere) in
    let fewer = fewer (goal.at.returns-in-Some-clause-short c).In_ok-second in
    let less : near ≤ all = omega (arith, fewer.in_near, fewer.in_far) in
    omega (
      arith,
      short,
      mul-le-mul_right (darts_of s + 1) less,
      ap (λ (l : PeakedMoves). length l.moves) c.in_ok-whole-in-Some.ensures,
      length-map c.in-Some.list.moves (raised c.of-common.result.front),
    )

pub returns-clause-short : goal.returns-clause-short
returns-clause-short c sphere = grind arith

use Rattle.free_forms.proofs.Common.{places_within, fewer_darts, left_together, left_apart, left_leads, put_around, LeadsAtPeak, IsListWithin, MOST_OPEN_SIDES, MOST_OPEN_STEPS, ℕ, ◌+◌, ◌*◌, refl, subst, arith, IfSome, FaceList, Homotopic, darts, AreWalkPair}
use Rattle.free_forms.proofs.AroundLemmas.{around_within}
use Rattle.free_forms.proofs.lifting.lift_open.Goals as goal

pub lift_by_normal_walks-requires-clause-walks : goal.lift_by_normal_walks-requires-clause-walks
lift_by_normal_walks-requires-clause-walks c =
    left_together c.args.mesh.now.mesh c.args.first.now c.args.second.now c.of-common.result c.in_ok-near.near c.in_ok-far.far
    c.requires.first c.requires.second c.of-common.ensures (record { near_is = c.in_ok-near.ensures; far_is = c.in_ok-far.ensures })

pub lift_by_normal_walks-requires-clause-few : goal.lift_by_normal_walks-requires-clause-few
lift_by_normal_walks-requires-clause-few c = grind (arith, fewer_darts)

pub put_back-requires-clause-places : goal.put_back-requires-clause-places
put_back-requires-clause-places c =
    let mesh : FaceList = c.args.mesh.now.mesh in
    let together : AreWalkPair mesh c.in_ok-near.near c.in_ok-far.far =
    left_together mesh c.args.first.now c.args.second.now c.of-common.result c.in_ok-near.near c.in_ok-far.far
    c.requires.first c.requires.second c.of-common.ensures (record { near_is = c.in_ok-near.ensures; far_is = c.in_ok-far.ensures }) in
    let leads : LeadsAtPeak mesh c.in_ok-near.near c.in-Some.list c.in_ok-far.far = grind arith in
    places_within mesh c.in_ok-near.near c.in_ok-far.far c.in-Some.list together.first_walk.starts leads

-- the list between is within the limits, and so it is with the common darts around
pub put_back-requires-clause-room : goal.put_back-requires-clause-room
put_back-requires-clause-room c =
    let most : ℕ = (darts c.in_ok-near.near + darts c.in_ok-far.far) * MOST_OPEN_SIDES in
    let short : IsListWithin most c.in-Some.list =
    subst (λ o. IfSome o (λ l. IsListWithin most l)) c.in-Some.is c.in_ok-list.ensures.short in
    let within : IsListWithin MOST_OPEN_STEPS (put_around c.of-common.result c.in-Some.list) = around_within
    (put_around c.of-common.result c.in-Some.list) c.requires.first.starts c.requires.second.starts c.of-common.ensures
    (record { near_is = c.in_ok-near.ensures; far_is = c.in_ok-far.ensures }) short refl c.requires.few in grind arith

pub returns-in-Some-clause-moves : goal.returns-in-Some-clause-moves
returns-in-Some-clause-moves c =
    let mesh : FaceList = c.args.mesh.now.mesh in
    let leads : LeadsAtPeak mesh c.in_ok-near.near c.in-Some.list c.in_ok-far.far = grind arith in
    left_leads mesh c.args.first.now c.args.second.now c.of-common.result c.in_ok-near.near c.in_ok-far.far c.in-Some.list
    c.in_ok-put_back-in-Some.field-0 c.requires.first c.requires.second c.of-common.ensures
    (record { near_is = c.in_ok-near.ensures; far_is = c.in_ok-far.ensures }) leads c.in_ok-put_back-in-Some.ensures

pub returns-in-Some-clause-short : goal.returns-in-Some-clause-short
returns-in-Some-clause-short c =
    let most : ℕ = (darts c.in_ok-near.near + darts c.in_ok-far.far) * MOST_OPEN_SIDES in
    let short : IsListWithin most c.in-Some.list =
    subst (λ o. IfSome o (λ l. IsListWithin most l)) c.in-Some.is c.in_ok-list.ensures.short in
    around_within c.in_ok-put_back-in-Some.field-0 c.requires.first.starts c.requires.second.starts c.of-common.ensures
    (record { near_is = c.in_ok-near.ensures; far_is = c.in_ok-far.ensures }) short c.in_ok-put_back-in-Some.ensures c.requires.few

pub returns-clause-moves : goal.returns-clause-moves
returns-clause-moves c =
    let mesh : FaceList = c.args.mesh.now.mesh in
    let apart : Homotopic mesh c.in_ok-near.near c.in_ok-far.far → ⊥ = grind arith in
    left_apart mesh c.args.first.now c.args.second.now c.of-common.result c.in_ok-near.near c.in_ok-far.far c.requires.first
    c.requires.second c.of-common.ensures (record { near_is = c.in_ok-near.ensures; far_is = c.in_ok-far.ensures }) apart

use Rattle.polygon_cut.proofs.Common.{twin_of, darts_of, one_up, ◌≡◌, ◌<◌, ◌∙◌, ℕ, length, refl, sym, ap, subst, arith, get_or, List, set, DartName, dart_numbers}
use Rattle.tree_cotree.proofs.RingLemmas.{number_at}
use Rattle.polygon_cut.proofs.TurningLemmas.{turns_go_round, spoke_below, turning_more}
use Rattle.polygon_cut.proofs.turning.places_by_turns.Goals as goal

-- the dart of a side, as it is read
side_read : (sides : List DartName) (spoke : ℕ) → spoke < length sides
    → (get_or sides spoke (record { 0 = 0 })).0 ≡ get_or (dart_numbers sides) spoke 0
side_read sides spoke l = sym (number_at sides spoke (record { 0 = 0 }) l)

pub index_mut-requires : goal.index_mut-requires
index_mut-requires c =
    let sides = c.args.sides.now in
    let round = turns_go_round c.requires.round (omega arith) in
    let below : c.loop-turn.spoke < length sides = spoke_below round c.loop-turn.invariant in
    omega (arith, below, c.loop-turn.invariant.placed.each_spoke, c.loop-turn.places.ok.0)

pub bounds-sides-spoke : goal.bounds-sides-spoke
bounds-sides-spoke c =
    let round = turns_go_round c.requires.round (omega arith) in
    spoke_below round c.loop-turn.invariant

pub twin-twin-requires : goal.twin-twin-requires
twin-twin-requires c =
    let sides = c.args.sides.now in
    let round = turns_go_round c.requires.round (omega arith) in
    let below = spoke_below round c.loop-turn.invariant in
    subst (λ d. d < darts_of c.args.surface.now) (sym (side_read sides c.loop-turn.spoke below))
    (c.requires.round.side_within c.loop-turn.spoke below)

pub number_after-spoke-requires : goal.number_after-spoke-requires
number_after-spoke-requires c =
    let sides = c.args.sides.now in
    let round = turns_go_round c.requires.round (omega arith) in
    let below = spoke_below round c.loop-turn.invariant in
    let twin = c.twin-twin.ensures.twin ∙ ap (twin_of c.args.surface.now) (side_read sides c.loop-turn.spoke below) in
    subst (λ d. get_or c.args.labels.now d 0 < length sides) (sym twin) (c.requires.round.across_within c.loop-turn.spoke below)

pub loop-turn-preserved : goal.loop-turn-preserved
loop-turn-preserved c =
    let sides = c.args.sides.now in
    let round = turns_go_round c.requires.round (omega arith) in
    let below = spoke_below round c.loop-turn.invariant in
    let twin = c.twin-twin.ensures.twin ∙ ap (twin_of c.args.surface.now) (side_read sides c.loop-turn.spoke below) in
    turning_more (set c.loop-turn.places.items c.loop-turn.spoke c.loop-turn.place) c.number_after-spoke.result
    c.number_before-place.result round (omega arith) c.loop-turn.invariant refl
    (c.number_after-spoke.ensures ∙ ap (λ d. one_up (length sides) (get_or c.args.labels.now d 0)) twin) c.number_before-place.ensures

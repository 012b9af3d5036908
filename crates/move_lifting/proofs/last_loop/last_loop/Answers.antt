use Rattle.move_lifting.proofs.Common.{darts_of, origin_of, LeadsAtPeak, IsLedOn, IsLastLoop, Lifted, side_at, last_side, ◌≡◌, ℕ, ◌-◌, ◌<◌, ◌∷◌, ◌++◌, [], List, length, not, refl, sym, ap, ◌∙◌, subst, arith, common_steps, append-nil, IfOk-weaker, PeakedMoves, apply, numbers, darts, Move, Across, VertexName}
use Rattle.move_lifting.specs.declared.cut.Cut.{Cut}
use Rattle.move_lifting.proofs.BoundLemmas.{IsShort, short_within}
use Rattle.move_lifting.proofs.ExpandLemmas.{length-numbers}
use Rattle.move_lifting.proofs.LastLoopLemmas.{IsAllRound, round_leads, round_freely, gone_round, last_below, step_within, step_starts}
use Rattle.move_lifting.proofs.last_loop.last_loop.Goals as goal
use Rattle.move_lifting.proofs.last_loop.last_loop.Goals.{After-origin, In_ok-around}

-- the last side is a dart of the surface
last_is : (cut : Cut) (side count : ℕ) → side ≡ side_at cut.polygon.now (count - 1) → count ≡ cut.polygon.now.degree
    → side ≡ last_side cut.polygon.now
last_is cut side count e f = e ∙ ap (λ (n : ℕ). side_at cut.polygon.now (n - 1)) f

below : (c : After-origin) → c.side-dart.result.0 < darts_of c.args.cut.now.on.surface.now
below c = grind (arith, last_is, last_below)

pub all_round-requires-clause-step : goal.all_round-requires-clause-step
all_round-requires-clause-step c = grind (arith, step_within, below)

pub all_round-requires-clause-start : goal.all_round-requires-clause-start
all_round-requires-clause-start c = grind (arith, step_starts, below)

-- the walk goes all round the root face
all_round : (c : In_ok-around)
    → IsAllRound c.args.cut.now.on.surface.now c.args.cut.now.on.split.now c.args.cut.now.polygon.now c.args.back c.step_from-step.result
    (numbers c.in_ok-around.around.items)
all_round c =
    gone_round c.args.cut.now.on.surface.now c.args.cut.now.on.split.now c.args.cut.now.polygon.now c.requires.surface.valid
    c.requires.surface.cut c.requires.surface.some c.args.back c.side-dart.result.0 c.step_from-step.result c.faces.result.now
    c.in_ok-around.around.items (last_is c.args.cut.now c.side-dart.result.0 c.degree.result c.side-dart.ensures c.degree.ensures.degree)
    c.step_from-step.ensures.step c.faces.ensures.mesh c.in_ok-around.ensures

pub overflow_cast-len : goal.overflow_cast-len
overflow_cast-len c =
    let round = all_round (goal.at.overflow_cast-len c).In_ok-around in
    omega (arith, round.long, round.is_walk.starts, length-numbers c.in_ok-around.around.items, c.len.ensures, c.requires.on.sides)

pub overflow_sub-len : goal.overflow_sub-len
overflow_sub-len c = grind (arith, common_steps, all_round, length-numbers)

pub lead_all-requires-clause-walk : goal.lead_all-requires-clause-walk
lead_all-requires-clause-walk c = grind (arith, all_round)

pub lead_all-requires-clause-few : goal.lead_all-requires-clause-few
lead_all-requires-clause-few c =
    omega (
      arith,
      (all_round (goal.at.lead_all-requires-clause-few c).In_ok-around).long,
      length-numbers c.in_ok-around.around.items,
      ap (λ (l : List VertexName). length l) c.deref.ensures.value,
      c.requires.on.sides,
    )

pub lead_all-requires-clause-on : goal.lead_all-requires-clause-on
lead_all-requires-clause-on c = c.requires.on

pub returns : goal.returns
returns c =
    let s = c.args.cut.now.on.surface.now in
    let round = all_round (goal.at.returns c).In_ok-around in
    let v : ℕ = origin_of s (last_side c.args.cut.now.polygon.now) in
    let corners : List ℕ = numbers c.in_ok-around.around.items in
    let count : c.len.result - 1 ≡ darts corners = omega (arith, c.len.ensures, length-numbers c.in_ok-around.around.items) in
    let noted : LeadsAtPeak s.mesh (v ∷ []) c.push.new.self corners =
    round_leads s.mesh v (c.len.result - 1) c.move_round.result corners c.new-moves.result c.push.new.self c.new-moves.ensures
    (ap (apply s.mesh (v ∷ [])) c.move_round.ensures ∙ round.leads) count c.in_ok-push.ensures.ok in
    let on : IsLedOn s c.args.cut.now.on.split.now 0 corners c.push.new.self c.in_ok-track.track.walk c.in_ok-track.track.list =
    subst (λ (l : List VertexName). IsLedOn s c.args.cut.now.on.split.now 0 (numbers l) c.push.new.self c.in_ok-track.track.walk
    c.in_ok-track.track.list) c.deref.ensures.value c.in_ok-track.ensures.led in
    let led : LeadsAtPeak s.mesh (v ∷ []) c.in_ok-track.track.list c.in_ok-track.track.walk =
    subst (LeadsAtPeak s.mesh (v ∷ []) c.in_ok-track.track.list) (append-nil c.in_ok-track.track.walk)
    (on.goes (v ∷ []) [] refl (subst (LeadsAtPeak s.mesh (v ∷ []) c.push.new.self) (sym (append-nil corners)) noted)) in
    let few : IsShort (darts_of s) 0 c.in_ok-track.track.walk c.push.new.self c.in_ok-track.track.list =
    short_within c.requires.surface.valid c.requires.on.split (darts_of s) (round.light c.requires.on.split) on in
    let begun : c.push.new.self.moves ≡ Across 0 c.step_from-step.result.face c.step_from-step.result.corner
    (not c.step_from-step.result.forward) 0 ∷ [] =
    ap (λ (l : PeakedMoves). l.moves) c.in_ok-push.ensures.ok ∙ ap (λ (l : PeakedMoves). l.moves ++ c.move_round.result ∷ [])
    c.new-moves.ensures
    ∙ ap (λ (m : Move). m ∷ []) c.move_round.ensures in
    let made : IsLastLoop s c.args.cut.now.on.split.now c.args.cut.now.polygon.now c.args.back
    (record { walk = c.in_ok-track.track.walk; moves = c.in_ok-track.track.list }) =
    record {
      leads = led;
      low = omega (
        arith,
        few.peak,
        round.long,
        count,
        ap (λ (l : PeakedMoves). l.peak) c.in_ok-push.ensures.ok,
        ap (λ (l : PeakedMoves). l.peak) c.new-moves.ensures,
      );
      short = omega (arith, few.long);
      no_spur = c.in_ok-track.ensures.no_spur;
      freely = λ root ways h.
          round_freely s c.args.cut.now.on.split.now c.args.cut.now.polygon.now c.args.back c.step_from-step.result corners
          c.new-moves.result c.push.new.self c.in_ok-track.track
          c.requires.surface.valid c.requires.on.split c.requires.surface.cut c.requires.surface.some round led begun on.leaves
          c.in_ok-track.ensures.off_cotree root ways h;
    } in
    IfOk-weaker c.finish.result _ _
    (λ (lifted : Lifted) is. subst (IsLastLoop s c.args.cut.now.on.split.now c.args.cut.now.polygon.now c.args.back) (sym is) made)
    c.finish.ensures

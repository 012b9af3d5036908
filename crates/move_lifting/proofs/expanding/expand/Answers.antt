use Rattle.move_lifting.proofs.Common.{darts_of, LeadsAtPeak, IsLedOn, Lifted, ◌≡◌, List, [], ℕ, ◌*◌, ◌≤◌, ap, ◌∙◌, subst, arith, mul-le-mul_left, IfOk-weaker, list_keeps_ends, PeakedMoves, numbers, darts}
use Rattle.move_lifting.proofs.BoundLemmas.{IsShort, short_walk, three_darts}
use Rattle.move_lifting.proofs.ExpandLemmas.{led_whole}
use Rattle.move_lifting.proofs.expanding.expand.Goals as goal
use Rattle.move_lifting.proofs.expanding.expand.Goals.{In_ok-track}

led : (c : In_ok-track)
    → LeadsAtPeak c.args.surface.now.mesh c.args.walk.now c.in_ok-track.track.list c.in_ok-track.track.walk
led c =
    let same : numbers c.deref.result.now ≡ c.args.walk.now = ap numbers c.deref.ensures.value ∙ c.in_ok-vertices.ensures in
    let nowhere : c.new-moves.result ≡ record { moves = []; peak = darts c.args.walk.now } =
    subst (λ (n : ℕ). c.new-moves.result ≡ record { moves = []; peak = n }) c.darts.ensures.count c.new-moves.ensures in
    led_whole c.args.surface.now.mesh c.args.walk.now (numbers c.deref.result.now) c.new-moves.result c.in_ok-track.track same nowhere
    c.in_ok-track.ensures.led.goes

pub returns-clause-leads : goal.returns-clause-leads
returns-clause-leads c = grind (arith, led)

pub returns-clause-off_cotree : goal.returns-clause-off_cotree
returns-clause-off_cotree c =
    IfOk-weaker c.finish.result _ _ (λ (x : Lifted) e. rw e c.in_ok-track.ensures.off_cotree) c.finish.ensures

pub returns-clause-ends : goal.returns-clause-ends
returns-clause-ends c =
    IfOk-weaker c.finish.result _ _
    (λ (x : Lifted) e. rw e (list_keeps_ends c.args.surface.now.mesh c.in_ok-track.track.list.moves c.args.walk.now c.in_ok-track.track.walk
    c.requires.walk.starts (led (goal.at.returns-clause-ends c).In_ok-track).leads)) c.finish.ensures

short : (c : In_ok-track)
    → IsShort (darts c.args.walk.now * darts_of c.args.surface.now) 0 c.in_ok-track.track.walk c.new-moves.result c.in_ok-track.track.list
short c =
    let s = c.args.surface.now in
    let same : numbers c.deref.result.now ≡ c.args.walk.now = ap numbers c.deref.ensures.value ∙ c.in_ok-vertices.ensures in
    short_walk c.in_ok-track.ensures.valid c.requires.split c.requires.walk
    (subst (λ (l : List ℕ). IsLedOn s c.args.split.now 0 l c.new-moves.result c.in_ok-track.track.walk c.in_ok-track.track.list) same
    c.in_ok-track.ensures.led)

pub returns-clause-long : goal.returns-clause-long
returns-clause-long c = grind (arith, short)

pub returns-clause-low : goal.returns-clause-low
returns-clause-low c =
    let one : 1 ≤ darts_of c.args.surface.now = omega (arith, three_darts c.args.surface.now c.in_ok-track.ensures.valid) in
    IfOk-weaker c.finish.result _ _
    (λ (x : Lifted) e. rw e (omega (
      arith,
      (short (goal.at.returns-clause-low c).In_ok-track).peak,
      mul-le-mul_left (darts c.args.walk.now) one,
      ap (λ (l : PeakedMoves). l.peak) c.new-moves.ensures,
      c.darts.ensures.count,
    ))) c.finish.ensures

pub lead_all-requires-clause-on : goal.lead_all-requires-clause-on
lead_all-requires-clause-on c = record { split = c.requires.split; sides = c.requires.sides }

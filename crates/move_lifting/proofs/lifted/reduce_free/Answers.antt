use Rattle.move_lifting.proofs.Common.{LeadsAtPeak, IsRemoval, Lifted, ◌≡◌, [], ℕ, ap, ◌∙◌, subst, arith, IfOk-weaker, All, list_keeps_ends, FaceList, numbers}
use Rattle.move_lifting.proofs.MoveLemmas.{removals_peak}
use Rattle.move_lifting.proofs.lifted.reduce_free.Goals as goal
use Rattle.move_lifting.proofs.lifted.reduce_free.Goals.{In_ok-track}
use Rattle.move_lifting.proofs.ExpandLemmas.{led_whole, length-numbers}

-- the moves lead, and take spurs out alone
leads : (c : In_ok-track) (mesh : FaceList) → LeadsAtPeak mesh c.args.walk.now c.in_ok-track.track.list c.in_ok-track.track.walk
leads c mesh =
    led_whole mesh c.args.walk.now (numbers c.deref.result.now) c.new-moves.result c.in_ok-track.track
    (ap numbers c.deref.ensures.value ∙ c.in_ok-vertices.ensures)
    (subst (λ (n : ℕ). c.new-moves.result ≡ record { moves = []; peak = n }) c.darts.ensures.count c.new-moves.ensures)
    (c.in_ok-track.ensures.leads mesh)

removals : (c : In_ok-track) → All IsRemoval c.in_ok-track.track.list.moves
removals c = grind arith

pub reduce_all-requires-clause-room : goal.reduce_all-requires-clause-room
reduce_all-requires-clause-room c = grind (arith, length-numbers)

pub returns-clause-leads : goal.returns-clause-leads
returns-clause-leads c =
    IfOk-weaker c.finish.result _ _ (λ (x : Lifted) e. rw e (leads (goal.at.returns-clause-leads c).In_ok-track)) c.finish.ensures

pub returns-clause-removals : goal.returns-clause-removals
returns-clause-removals c = grind (arith, removals)

pub returns-clause-peak : goal.returns-clause-peak
returns-clause-peak c =
    let none : FaceList = record { count = 0; faces = [] } in
    let at = (goal.at.returns-clause-peak c).In_ok-track in
    IfOk-weaker c.finish.result _ _
    (λ (x : Lifted) e. rw e ((leads at none).peak
    ∙ removals_peak none c.in_ok-track.track.list.moves c.args.walk.now c.in_ok-track.track.walk c.darts.ensures.starts (removals at)
    (leads at none).leads)) c.finish.ensures

pub returns-clause-ends : goal.returns-clause-ends
returns-clause-ends c =
    let none : FaceList = record { count = 0; faces = [] } in
    IfOk-weaker c.finish.result _ _
    (λ (x : Lifted) e. rw e (list_keeps_ends none c.in_ok-track.track.list.moves c.args.walk.now c.in_ok-track.track.walk
    c.darts.ensures.starts (leads (goal.at.returns-clause-ends c).In_ok-track none).leads)) c.finish.ensures

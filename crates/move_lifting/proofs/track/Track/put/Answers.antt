use Rattle.move_lifting.proofs.Common.{arith, on_ok_weaker}
use Rattle.move_lifting.proofs.MoveLemmas.{step_back_goes, step_back_no_spur, step_back_some}
use Rattle.move_lifting.proofs.track.Track.put.Goals as goal

pub returns-then-came_from-clause-leads : goal.returns-then-came_from-clause-leads
returns-then-came_from-clause-leads c =
    let came = c.came_from.ensures.0 c.if-came_from.true in
    on_ok_weaker c.step_back.result
    (λ back mesh. step_back_goes mesh c.args.next.0 came.0 came.1 back)
    c.step_back.ensures.back

pub returns-then-came_from-clause-no_spur : goal.returns-then-came_from-clause-no_spur
returns-then-came_from-clause-no_spur c = grind (arith, step_back_no_spur)

pub returns-then-came_from-clause-some : goal.returns-then-came_from-clause-some
returns-then-came_from-clause-some c = grind (arith, step_back_some)

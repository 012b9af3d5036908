use Rattle.move_lifting.proofs.Common.{IsLedOn, List, subst, IfOk-weaker, numbers, VertexName}
use Rattle.move_lifting.proofs.LedLemmas.{led_after, led_from, led_walk}
use Rattle.move_lifting.proofs.passing.lead_in_passes.Goals as goal

pub lead_all-requires-clause-walk : goal.lead_all-requires-clause-walk
lead_all-requires-clause-walk c =
    rw c.deref.ensures.value (led_walk (led_from c.requires.led c.in_ok-walk.ensures.led))

pub returns-clause-led : goal.returns-clause-led
returns-clause-led c =
    IfOk-weaker c.lead_all.result _ _
    (λ track led. led_after c.in_ok-walk.ensures.led
    (subst (λ (v : List VertexName). IsLedOn c.args.on.now.surface.now c.args.on.now.split.now c.args.behind (numbers v)
    c.in_ok-walk.moves track.walk track.list) c.deref.ensures.value led)) c.lead_all.ensures.led

use Rattle.move_lifting.proofs.Common.{HasWalk, subst, arith, take_all, All-more, All}
use Rattle.move_lifting.proofs.spoke_walks.SpokeWalks.has_all.Goals as goal

pub loop-spoke-preserved : goal.loop-spoke-preserved
loop-spoke-preserved c =
    All-more (HasWalk c.args.self.now) c.args.front.now c.loop-spoke.spoke-index 0 c.loop-spoke-test.true c.loop-spoke.invariant
    (c.has.ensures.0 c.if-not-has.false)

pub returns : goal.returns
returns c said =
    subst (All (HasWalk c.args.self.now))
    (take_all c.loop-spoke.spoke-index c.args.front.now (omega (arith, c.loop-spoke-test.false))) c.loop-spoke.invariant

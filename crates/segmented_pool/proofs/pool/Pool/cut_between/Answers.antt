use Rattle.segmented_pool.proofs.Common.{arith}
use Rattle.segmented_pool.proofs.Cuts.{cut_nothing, cut_some, cut_done}
use Rattle.segmented_pool.proofs.pool.Pool.cut_between.Goals as goal

pub loop-left-init : goal.loop-left-init
loop-left-init c = grind (arith, cut_nothing)

pub cut_some-left-requires-clause-live : goal.cut_some-left-requires-clause-live
cut_some-left-requires-clause-live c = c.loop-left.invariant.live

pub cut_some-left-requires-clause-place : goal.cut_some-left-requires-clause-place
cut_some-left-requires-clause-place c = c.loop-left.invariant.within

pub loop-left-preserved : goal.loop-left-preserved
loop-left-preserved c =
    cut_some c.args.self.now c.loop-left.self c.args.chain.0 c.args.from c.args.to c.loop-left.left c.loop-left.invariant _
    c.cut_some-left.result _ (omega (arith, c.cut_some-left.ensures.most)) c.cut_some-left.ensures.list c.cut_some-left.ensures.spare

pub returns-clause-list : goal.returns-clause-list
returns-clause-list c =
    cut_done c.args.self.now c.loop-left.self c.args.chain.0 c.args.from c.args.to c.loop-left.left c.loop-left.invariant (omega arith)

pub returns-clause-spare : goal.returns-clause-spare
returns-clause-spare c = omega (arith, c.loop-left.invariant.spare)

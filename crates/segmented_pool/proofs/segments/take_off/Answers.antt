use Rattle.segmented_pool.proofs.Common.{arith, common_steps}
use Rattle.segmented_pool.proofs.Moved.{moved_none, moved_more}
use Rattle.segmented_pool.proofs.segments.take_off.Goals as goal

pub loop-moved-init : goal.loop-moved-init
loop-moved-init c = grind (arith, moved_none)

pub push_after-requires-clause-place : goal.push_after-requires-clause-place
push_after-requires-clause-place c = grind (arith, common_steps)

pub loop-moved-preserved : goal.loop-moved-preserved
loop-moved-preserved c =
    moved_more c.args.pool.now c.loop-moved.pool c.args.chain.0 c.start_chain-taken.result.0 c.args.place c.loop-moved.moved
    c.loop-moved.invariant c.entry-value.new.self c.cut_between.new.self c.push_after.new.self c.entry-value.result
    c.entry-value.ensures.same c.requires.place (omega
    (arith, c.len.ensures, c.loop-moved-test.true)) c.entry-value.ensures.value c.cut_between.ensures.list c.cut_between.ensures.spare
    c.push_after.ensures.list c.push_after.ensures.spare

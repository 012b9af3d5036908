use Rattle.segmented_pool.proofs.Common.{arith}
use Rattle.segmented_pool.proofs.Marks.{end_within, found_last}
use Rattle.segmented_pool.proofs.segments.Segments.look_for.Goals as goal

pub overflow_add-mark : goal.overflow_add-mark
overflow_add-mark c =
    omega (arith, c.len.ensures, c.requires.len, end_within c.args.self.now.parts c.loop-mark-2.mark c.loop-mark-2.invariant.0)

pub returns-after-loop-mark-2-clause-here : goal.returns-after-loop-mark-2-clause-here
returns-after-loop-mark-2-clause-here c =
    found_last c.args.self.now.parts c.loop-mark-2.mark c.args.place c.loop-mark-2.invariant.0 c.loop-mark-2.invariant.1
    (omega (arith, c.requires.place, c.requires.len))
    (omega (arith, c.loop-mark-2-test.false, c.count-last.ensures))

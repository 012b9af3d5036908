use Rattle.segmented_pool.proofs.Common.{IsMark, ◌-◌, ◌≤◌, length}
use Rattle.segmented_pool.proofs.segments.Segments.look_for.Given as goal

abbrev pub invariant-loop-mark : goal.invariant-loop-mark
invariant-loop-mark l = IsMark l.self.parts l.mark

abbrev pub decreases-loop-mark : goal.decreases-loop-mark
decreases-loop-mark l = l.mark.index

abbrev pub invariant-loop-mark-2 : goal.invariant-loop-mark-2
invariant-loop-mark-2 l = IsMark l.self.parts l.mark × (l.mark.start ≤ l.place)

abbrev pub decreases-loop-mark-2 : goal.decreases-loop-mark-2
decreases-loop-mark-2 l = length l.self.parts - l.mark.index

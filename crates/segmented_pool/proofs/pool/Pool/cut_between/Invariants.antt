use Rattle.segmented_pool.proofs.Cuts.{IsCutSome}
use Rattle.segmented_pool.proofs.pool.Pool.cut_between.Given as goal

abbrev pub invariant-loop-left : goal.invariant-loop-left
invariant-loop-left l = IsCutSome l.fn.self l.self l.chain.0 l.from l.to l.left

abbrev pub decreases-loop-left : goal.decreases-loop-left
decreases-loop-left l = l.left

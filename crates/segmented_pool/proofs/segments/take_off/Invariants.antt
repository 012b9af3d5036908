use Rattle.segmented_pool.proofs.Moved.{IsMoved}
use Rattle.segmented_pool.proofs.segments.take_off.Given as goal

abbrev pub invariant-loop-moved : goal.invariant-loop-moved
invariant-loop-moved l = IsMoved l.fn.pool l.pool l.chain.0 l.taken.0 l.place l.moved

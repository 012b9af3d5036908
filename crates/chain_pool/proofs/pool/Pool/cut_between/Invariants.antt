use Rattle.chain_pool.proofs.Lists.{IsCutTo}
use Rattle.chain_pool.proofs.pool.Pool.cut_between.Given as goal

abbrev pub invariant-loop-i : goal.invariant-loop-i
invariant-loop-i l = IsCutTo l.fn.self l.self-inside.cells l.chain.0 l.from l._i

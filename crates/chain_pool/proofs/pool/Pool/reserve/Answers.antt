use Rattle.chain_pool.proofs.Common.{under, arith}
use Rattle.chain_pool.proofs.Soundness.{IsAlike-joined}
use Rattle.chain_pool.proofs.pool.Pool.reserve.Goals as goal

pub returns-clause-lists : goal.returns-clause-lists
returns-clause-lists c = grind (arith, IsAlike-joined, under)

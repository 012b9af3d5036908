use Rattle.chain_pool.proofs.Common.{arith, common_steps}
use Rattle.chain_pool.proofs.Lists.{list_in}
use Rattle.chain_pool.proofs.Soundness.{length-joined}
use Rattle.chain_pool.proofs.pool.Pool.len.Goals as goal

pub returns : goal.returns
returns c = grind (arith, common_steps, list_in, length-joined)

use Rattle.chain_pool.proofs.Common.{arith}
use Rattle.chain_pool.proofs.Reading.{length-stack}
use Rattle.chain_pool.proofs.entries.Entries.len.Goals as goal

pub returns : goal.returns
returns c = grind (arith, length-stack)

use Rattle.chain_pool.proofs.Common.{arith}
use Rattle.chain_pool.proofs.cells.Cells.make_all.Goals as goal

pub loop-self-preserved : goal.loop-self-preserved
loop-self-preserved c = grind arith

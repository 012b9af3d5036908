use Rattle.chain_pool.proofs.Common.{is_some, arith, common_steps}
use Rattle.chain_pool.proofs.Soundness.{cells_in-alike_joined}
use Rattle.chain_pool.proofs.cells.Cells.reserve.Goals as goal

pub invariant_of-self-2 : goal.invariant_of-self-2
invariant_of-self-2 c = grind (arith, common_steps, cells_in-alike_joined, is_some)

use Rattle.segmented_pool.proofs.Common.{arith}
use Rattle.segmented_pool.proofs.Marks.{entry_at}
use Rattle.segmented_pool.proofs.Only.{only_list}
use Rattle.segmented_pool.proofs.pool.Pool.at.Goals as goal

pub returns : goal.returns
returns c = grind (arith, only_list, entry_at)

use Rattle.segmented_pool.proofs.Common.{arith}
use Rattle.segmented_pool.proofs.Marks.{entry_at}
use Rattle.segmented_pool.proofs.Only.{only_list}
use Rattle.segmented_pool.proofs.pool.Pool.entry.Goals as goal

pub returns-clause-value : goal.returns-clause-value
returns-clause-value c = grind (arith, only_list, entry_at)

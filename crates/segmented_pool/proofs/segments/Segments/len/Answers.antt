use Rattle.segmented_pool.proofs.Common.{arith, common_steps}
use Rattle.segmented_pool.proofs.RowEdits.{here}
use Rattle.segmented_pool.proofs.segments.Segments.len.Goals as goal

pub returns : goal.returns
returns c = grind (arith, common_steps, here)

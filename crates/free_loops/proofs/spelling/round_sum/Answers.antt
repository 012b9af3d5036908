use Rattle.free_loops.proofs.Common.{arith, add-cases}
use Rattle.free_loops.proofs.spelling.round_sum.Goals as goal

pub returns-then-from-room : goal.returns-then-from-room
returns-then-from-room c = omega (arith, add-cases c.args.degree c.args.from c.args.by)

pub returns-else-from-room : goal.returns-else-from-room
returns-else-from-room c = omega (arith, add-cases c.args.degree c.args.from c.args.by)

use Rattle.spoke_paths.proofs.Common.{arith, add-cases}
use Rattle.spoke_paths.proofs.turn.next_number.Goals as goal

pub returns-then-a-degree-clause-next : goal.returns-then-a-degree-clause-next
returns-then-a-degree-clause-next c = omega (arith, add-cases c.args.degree c.args.a 1)

pub returns-else-a-degree-clause-next : goal.returns-else-a-degree-clause-next
returns-else-a-degree-clause-next c = omega (arith, add-cases c.args.degree c.args.a 1)

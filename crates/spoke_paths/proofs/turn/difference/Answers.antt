use Rattle.spoke_paths.proofs.Common.{arith, add-cases, minus-cases}
use Rattle.spoke_paths.proofs.turn.difference.Goals as goal

pub returns-then-a-b-clause-difference : goal.returns-then-a-b-clause-difference
returns-then-a-b-clause-difference c = grind (arith, minus-cases, add-cases)

pub returns-else-a-b-clause-difference : goal.returns-else-a-b-clause-difference
returns-else-a-b-clause-difference c = grind (arith, minus-cases, add-cases)

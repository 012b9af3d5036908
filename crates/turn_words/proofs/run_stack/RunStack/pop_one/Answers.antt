use Rattle.turn_words.proofs.Common.{arith}
use Rattle.turn_words.proofs.RunLists.{apart-front, apart-less, written-less, written-last}
use Rattle.turn_words.proofs.run_stack.RunStack.pop_one.Goals as goal

pub returns-then-count-gt1-clause-cases : goal.returns-then-count-gt1-clause-cases
returns-then-count-gt1-clause-cases g c = grind (arith, written-less)

pub returns-then-count-gt1-clause-apart : goal.returns-then-count-gt1-clause-apart
returns-then-count-gt1-clause-apart g c = grind (arith, apart-less)

pub returns-else-count-gt1-clause-cases : goal.returns-else-count-gt1-clause-cases
returns-else-count-gt1-clause-cases g c = grind (arith, written-last)

pub returns-else-count-gt1-clause-apart : goal.returns-else-count-gt1-clause-apart
returns-else-count-gt1-clause-apart g c = grind (arith, apart-front)

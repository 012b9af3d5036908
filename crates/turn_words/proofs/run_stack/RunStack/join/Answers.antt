use Rattle.turn_words.proofs.Common.{arith}
use Rattle.turn_words.proofs.RunLists.{apart-push, written-joined}
use Rattle.turn_words.proofs.run_stack.RunStack.join.Goals as goal

pub returns-clause-written : goal.returns-clause-written
returns-clause-written g c = grind (arith, written-joined)

pub returns-clause-apart : goal.returns-clause-apart
returns-clause-apart g c = grind (arith, apart-push)

use Rattle.labellings.proofs.Common.{arith}
use Rattle.turn_words.specs.Lemmas.Sums.{add-cases}
use Rattle.labellings.proofs.rules.one_more.Goals as goal

pub returns-then-number-degree-clause-sum : goal.returns-then-number-degree-clause-sum
returns-then-number-degree-clause-sum c = omega (arith, add-cases c.args.degree c.args.number 1)

pub returns-else-number-degree-clause-sum : goal.returns-else-number-degree-clause-sum
returns-else-number-degree-clause-sum c = omega (arith, add-cases c.args.degree c.args.number 1)

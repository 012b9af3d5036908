use Rattle.turn_words.proofs.Common.{arith, minus-cases}
use Rattle.turn_words.proofs.modulo.negative_modulo.Goals as goal

pub returns-then-a-eq0-clause-negative : goal.returns-then-a-eq0-clause-negative
returns-then-a-eq0-clause-negative c = omega (arith, minus-cases c.args.degree c.args.a c.requires)

pub returns-else-a-eq0-clause-negative : goal.returns-else-a-eq0-clause-negative
returns-else-a-eq0-clause-negative c = omega (arith, minus-cases c.args.degree c.args.a c.requires)

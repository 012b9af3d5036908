use Rattle.turn_words.proofs.Common.{arith, add-cases}
use Rattle.turn_words.proofs.modulo.sum_modulo.Goals as goal

pub returns-then-b-room-clause-sum : goal.returns-then-b-room-clause-sum
returns-then-b-room-clause-sum c = omega (arith, add-cases c.args.degree c.args.a c.args.b)

pub returns-else-b-room-clause-sum : goal.returns-else-b-room-clause-sum
returns-else-b-room-clause-sum c = omega (arith, add-cases c.args.degree c.args.a c.args.b)

use Rattle.pair_commands.proofs.Common.{refl}
use Rattle.pair_commands.proofs.pair_input.check_list.Goals as goal

pub returns-in-Ok-clause-ends : goal.returns-in-Ok-clause-ends
returns-in-Ok-clause-ends c = λ mesh table. (c.in-Ok.ensures.pairs mesh table).0 refl

use Rattle.walk_files.proofs.Common.{arith}
use Rattle.walk_files.proofs.DenialParts.{small_at_each}
use Rattle.walk_files.proofs.denial_writing.put_line.Goals as goal

pub returns-clause-numbers : goal.returns-clause-numbers
returns-clause-numbers g c = small_at_each c.args.numbers.now (λ j less. omega (arith, c.type_inv.numbers j))

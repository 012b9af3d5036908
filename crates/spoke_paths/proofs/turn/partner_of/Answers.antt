use Rattle.spoke_paths.proofs.Common.{arith, common_steps}
use Rattle.spoke_paths.proofs.Ways.{partner-quad}
use Rattle.spoke_paths.proofs.turn.partner_of.Goals as goal

pub returns-clause-quad : goal.returns-clause-quad
returns-clause-quad c = grind (arith, partner-quad)

pub returns-clause-back : goal.returns-clause-back
returns-clause-back c = grind (arith, common_steps, partner-quad)

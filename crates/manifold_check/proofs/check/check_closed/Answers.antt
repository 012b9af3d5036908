use Rattle.manifold_check.proofs.Common.{arith}
use Rattle.manifold_check.proofs.FaultLemmas.{one_fault, no_fault}
use Rattle.manifold_check.proofs.check.check_closed.Goals as goal

pub returns-clause-accepted : goal.returns-clause-accepted
returns-clause-accepted c = grind (arith, no_fault)

pub returns-clause-refused : goal.returns-clause-refused
returns-clause-refused c = grind (arith, no_fault, one_fault)

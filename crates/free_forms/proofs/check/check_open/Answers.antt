use Rattle.free_forms.proofs.Common.{arith}
use Rattle.free_forms.proofs.FaultLemmas.{one_fault, no_fault}
use Rattle.free_forms.proofs.check.check_open.Goals as goal

pub returns-clause-accepted : goal.returns-clause-accepted
returns-clause-accepted c = grind (arith, no_fault)

pub returns-clause-refused : goal.returns-clause-refused
returns-clause-refused c = grind (arith, no_fault, one_fault)

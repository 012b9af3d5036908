use Rattle.manifold_check.proofs.FaultLemmas.{one_fault}
use Rattle.manifold_check.proofs.laws.one_first_fault.Goals as goal

pub returns : goal.returns
returns c = one_fault

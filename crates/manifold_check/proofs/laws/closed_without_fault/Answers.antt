use Rattle.manifold_check.proofs.FaultLemmas.{no_fault}
use Rattle.manifold_check.proofs.laws.closed_without_fault.Goals as goal

pub returns : goal.returns
returns c = no_fault

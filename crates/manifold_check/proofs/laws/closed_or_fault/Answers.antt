use Rattle.manifold_check.proofs.OutcomeLemmas.{closed_or_fault as law}
use Rattle.manifold_check.proofs.laws.closed_or_fault.Goals as goal

pub returns : goal.returns
returns c = law

use Rattle.compact_surfaces.proofs.FaultLemmas.{one_first}
use Rattle.compact_surfaces.proofs.laws.one_first_fault.Goals as goal

pub returns : goal.returns
returns c = one_first

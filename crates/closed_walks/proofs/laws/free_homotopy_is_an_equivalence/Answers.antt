use Rattle.closed_walks.proofs.FreeStepLemmas.{turn, on}
use Rattle.closed_walks.proofs.laws.free_homotopy_is_an_equivalence.Goals as goal

pub returns-clause-symmetric : goal.returns-clause-symmetric
returns-clause-symmetric c = turn

pub returns-clause-transitive : goal.returns-clause-transitive
returns-clause-transitive c = on

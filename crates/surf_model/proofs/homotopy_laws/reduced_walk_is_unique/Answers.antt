use Rattle.surf_model.proofs.FreeWalkLemmas.{one_reduced_walk}
use Rattle.surf_model.proofs.homotopy_laws.reduced_walk_is_unique.Goals as goal

pub returns : goal.returns
returns c = one_reduced_walk

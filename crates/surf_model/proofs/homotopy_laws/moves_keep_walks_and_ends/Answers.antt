use Rattle.surf_model.proofs.Common.{arith}
use Rattle.surf_model.proofs.WayBackLemmas.{list_keeps_walk, list_keeps_ends}
use Rattle.surf_model.proofs.homotopy_laws.moves_keep_walks_and_ends.Goals as goal

pub returns : goal.returns
returns c = grind (arith, list_keeps_walk, list_keeps_ends)

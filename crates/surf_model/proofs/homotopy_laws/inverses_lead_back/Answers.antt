use Rattle.surf_model.proofs.Common.{arith}
use Rattle.surf_model.proofs.WayBackLemmas.{undone, list_undone}
use Rattle.surf_model.proofs.homotopy_laws.inverses_lead_back.Goals as goal

pub returns : goal.returns
returns c = grind (arith, undone, list_undone)

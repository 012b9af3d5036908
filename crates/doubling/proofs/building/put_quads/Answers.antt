use Rattle.doubling.proofs.Common.{arith, first_side-all, first_side}
use Rattle.doubling.proofs.BuildingLemmas.{quads_all}
use Rattle.doubling.proofs.building.put_quads.Goals as goal

pub returns-clause-put : goal.returns-clause-put
returns-clause-put c = grind (arith, quads_all, first_side, first_side-all)

use Rattle.doubling.proofs.Common.{arith}
use Rattle.doubling.proofs.RimLemmas.{alone_by_table}
use Rattle.doubling.proofs.building.is_rim.Goals as goal

pub returns : goal.returns
returns c = grind (arith, alone_by_table)

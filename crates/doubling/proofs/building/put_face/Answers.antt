use Rattle.doubling.proofs.Common.{arith, common_steps}
use Rattle.doubling.proofs.BuildingLemmas.{corner_more, length-numbers}
use Rattle.doubling.proofs.building.put_face.Goals as goal

pub loop-corner-preserved : goal.loop-corner-preserved
loop-corner-preserved c = grind (arith, common_steps, corner_more, length-numbers)

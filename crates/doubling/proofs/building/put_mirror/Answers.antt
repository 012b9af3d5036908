use Rattle.doubling.proofs.Common.{◌-◌, arith, common_steps}
use Rattle.doubling.proofs.BuildingLemmas.{corner_more, length-numbers, mirror_stands, mirror_closes}
use Rattle.doubling.proofs.DoubleFaces.{mirror_corner, length-mirror_face}
use Rattle.doubling.proofs.building.put_mirror.Goals as goal

pub loop-place-preserved : goal.loop-place-preserved
loop-place-preserved c = grind (arith, common_steps, corner_more, length-mirror_face, length-numbers, mirror_corner)

pub close_face-requires : goal.close_face-requires
close_face-requires c = grind (arith, common_steps, mirror_closes, mirror_stands, length-numbers)

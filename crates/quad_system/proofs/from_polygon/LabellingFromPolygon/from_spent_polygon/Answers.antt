use Rattle.quad_system.proofs.Common.{arith}
use Rattle.quad_system.proofs.PolygonMakingLemmas.{told_alone}
use Rattle.quad_system.proofs.from_polygon.LabellingFromPolygon.from_spent_polygon.Goals as goal

pub returns : goal.returns
returns c = grind (arith, told_alone)

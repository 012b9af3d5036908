use Rattle.move_lifting.proofs.Common.{arith, after_within}
use Rattle.move_lifting.proofs.CrossingLemmas.{rest_more, corner_more}
use Rattle.move_lifting.proofs.crossing.push_rest.Goals as goal

pub corner_after-corner-requires : goal.corner_after-corner-requires
corner_after-corner-requires c = grind (arith, after_within)

pub loop-count-preserved : goal.loop-count-preserved
loop-count-preserved c = grind (arith, corner_more, rest_more)

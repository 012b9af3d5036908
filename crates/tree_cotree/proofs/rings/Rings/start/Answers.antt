use Rattle.tree_cotree.proofs.Common.{arith, common_steps}
use Rattle.tree_cotree.proofs.RingLemmas.{turns_more, empty_rings}
use Rattle.tree_cotree.proofs.rings.Rings.start.Goals as goal

pub loop-dart-preserved : goal.loop-dart-preserved
loop-dart-preserved c = grind (arith, turns_more)

pub returns-clause-rings : goal.returns-clause-rings
returns-clause-rings c = grind (arith, common_steps, empty_rings)

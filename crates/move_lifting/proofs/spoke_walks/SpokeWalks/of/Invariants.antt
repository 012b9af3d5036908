use Rattle.move_lifting.proofs.Common.{numbers}
use Rattle.move_lifting.proofs.ApproachLemmas.{AreMade}
use Rattle.move_lifting.proofs.spoke_walks.SpokeWalks.of.Given as goal

abbrev pub invariant-loop-spoke : goal.invariant-loop-spoke
invariant-loop-spoke l = AreMade l.cut.on.surface.now l.cut.on.split.now l.cut.polygon.now l.named l.spoke l.walks (numbers l.walk.items)

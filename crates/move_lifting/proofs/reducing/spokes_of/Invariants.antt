use Rattle.move_lifting.proofs.Common.{numbers}
use Rattle.move_lifting.proofs.ReductionLemmas.{AreSpokesSoFar}
use Rattle.move_lifting.proofs.reducing.spokes_of.Given as goal

abbrev pub invariant-loop-place : goal.invariant-loop-place
invariant-loop-place l = AreSpokesSoFar l.surface l.polygon (numbers l.walk) l.place l.spokes.items

use Rattle.orientation.proofs.Common.{◌≡◌, take}
use Rattle.orientation.proofs.trees.Trees.signs.Given as goal

abbrev pub invariant-loop-flipped : goal.invariant-loop-flipped
invariant-loop-flipped l = l.signs ≡ take l.flipped-index l.flipped-items

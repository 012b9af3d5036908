use Rattle.tree_cotree.proofs.Common.{rotations_of, IsMarked}
use Rattle.tree_cotree.proofs.marking.mark.Given as goal

abbrev pub invariant-loop-node : goal.invariant-loop-node
invariant-loop-node l = IsMarked (rotations_of l.surface) l.from l.kind l.fn.kinds.items l.kinds.items l.node

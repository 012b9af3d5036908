use Rattle.move_lifting.proofs.Common.{IsPushed, take, numbers}
use Rattle.move_lifting.proofs.pooled_walk.push_all.Given as goal

abbrev pub invariant-loop-vertex : goal.invariant-loop-vertex
invariant-loop-vertex l = IsPushed l.fn.pool l.pool l.chain (numbers (take l.vertex-index l.vertices))

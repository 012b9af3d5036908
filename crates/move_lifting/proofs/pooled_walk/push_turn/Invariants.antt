use Rattle.move_lifting.proofs.Common.{IsPushed, take, drop}
use Rattle.move_lifting.proofs.pooled_walk.push_turn.Given as goal

abbrev pub invariant-loop-place : goal.invariant-loop-place
invariant-loop-place l = IsPushed l.fn.pool l.pool l.chain (take l.place (drop 1 l.turn))

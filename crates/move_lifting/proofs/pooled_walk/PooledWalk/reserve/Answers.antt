use Rattle.move_lifting.proofs.Common.{arith}
use Rattle.move_lifting.proofs.ChainLemmas.{alone_alike, reserved_fits}
use Rattle.move_lifting.proofs.pooled_walk.PooledWalk.reserve.Goals as goal

pub invariant_of-self : goal.invariant_of-self
invariant_of-self c = grind (arith, alone_alike, reserved_fits)

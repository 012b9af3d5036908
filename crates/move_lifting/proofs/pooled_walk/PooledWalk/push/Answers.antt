use Rattle.move_lifting.proofs.ChainLemmas.{alone_pushed}
use Rattle.move_lifting.proofs.pooled_walk.PooledWalk.push.Goals as goal

pub invariant_of-self : goal.invariant_of-self
invariant_of-self c =
    alone_pushed c.self.invariant c.push_vertex.ensures

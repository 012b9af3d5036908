use Rattle.move_lifting.proofs.Common.{arith}
use Rattle.move_lifting.proofs.ChainLemmas.{alone_first}
use Rattle.move_lifting.proofs.pooled_walk.PooledWalk.start.Goals as goal

pub invariant_of-result : goal.invariant_of-result
invariant_of-result c =
    alone_first c.new-pool.result c.reserve.new.self c.start_chain-chain.new.self c.push_after.new.self c.start_chain-chain.result
    c.args.start.0 c.args.more
    c.new-pool.ensures.lists c.in_ok-reserve.ensures.lists
    (omega (arith, c.in_ok-reserve.ensures.spare, c.new-pool.ensures.spare))
    c.start_chain-chain.ensures.was c.start_chain-chain.ensures.list c.start_chain-chain.ensures.spare
    c.push_after.ensures.list c.push_after.ensures.spare c.requires

use Rattle.chain_pool.proofs.Common.{list_under, ◌≡◌, length}
use Rattle.chain_pool.proofs.Splices.{IsSplicedTo}
use Rattle.chain_pool.proofs.pool.Pool.splice.Given as goal

abbrev pub invariant-loop-i : goal.invariant-loop-i
invariant-loop-i l =
    IsSplicedTo l.fn.self l.self-inside.cells l.chain.0 l.place l.other.0 l._i × (l.len ≡ length (list_under l.fn.self.lists l.other.0))

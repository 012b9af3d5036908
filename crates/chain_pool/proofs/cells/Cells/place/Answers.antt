use Rattle.chain_pool.proofs.Common.{PartedChains, ap, sym}
use Rattle.chain_pool.proofs.Writes.{before_len}
use Rattle.chain_pool.proofs.cells.Cells.place.Goals as goal

pub returns : goal.returns
returns c =
    sym (before_len c.self.inside.slots.slots c.self.inside.slots.capacity c.self.inside.free c.self.inside.spare c.self.invariant
    c.args.chain.0 c.head.result.0 c.head.result.1 c.head.ensures c.args.self.now.chains
    (ap (λ (v : PartedChains). v.chains) c.self.view_is))

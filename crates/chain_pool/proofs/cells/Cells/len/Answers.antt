use Rattle.chain_pool.proofs.Common.{PartedChains, chains_of, ◌≡◌, ap, arith}
use Rattle.chain_pool.proofs.Soundness.{few}
use Rattle.chain_pool.proofs.Writes.{before_len, behind_len}
use Rattle.chain_pool.proofs.cells.Cells.len.Goals as goal

pub overflow_add-result : goal.overflow_add-result
overflow_add-result c =
    omega (
      arith,
      few c.self.inside.slots.slots c.self.inside.slots.capacity c.self.inside.free c.self.inside.spare c.self.invariant
          c.args.chain.0 c.head.result.0 c.head.result.1 c.head.ensures,
    )

pub returns : goal.returns
returns c =
    let same : chains_of c.self.inside.slots.slots ≡ c.args.self.now.chains = ap (λ (v : PartedChains). v.chains) c.self.view_is in
    omega (
      arith,
      before_len c.self.inside.slots.slots c.self.inside.slots.capacity c.self.inside.free c.self.inside.spare c.self.invariant
          c.args.chain.0 c.head.result.0 c.head.result.1 c.head.ensures c.args.self.now.chains same,
      behind_len c.self.inside.slots.slots c.self.inside.slots.capacity c.self.inside.free c.self.inside.spare c.self.invariant
          c.args.chain.0 c.head.result.0 c.head.result.1 c.head.ensures c.args.self.now.chains same,
    )

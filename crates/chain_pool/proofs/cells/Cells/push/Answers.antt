use Rattle.chain_pool.proofs.Common.{PartedChains, chains_of, ◌≡◌, ◌<◌, ap, arith}
use Rattle.chain_pool.proofs.Edits.{push_edits}
use Rattle.chain_pool.proofs.Soundness.{few}
use Rattle.chain_pool.proofs.Writes.{twice_written, free_entry}
use Rattle.chain_pool.proofs.cells.Cells.push.Goals as goal
use Rattle.chain_pool.proofs.cells.Cells.push.Goals.{After-head}

some : (c : After-head) → 0 < c.self.inside.free.len
some c = omega (arith, c.requires.free, ap (λ (v : PartedChains). v.free) c.self.view_is)

pub entry-next-requires : goal.entry-next-requires
entry-next-requires c = free_entry c.self.inside.slots.slots c.self.inside.slots.capacity c.self.inside.free c.self.inside.spare
    c.self.invariant (some (goal.at.entry-next-requires c).After-head)

pub with_top-left-requires : goal.with_top-left-requires
with_top-left-requires c =
    omega (
      arith,
      some (goal.at.with_top-left-requires c).After-head,
      c.self.invariant.made,
      few c.self.inside.slots.slots c.self.inside.slots.capacity c.self.inside.free c.self.inside.spare c.self.invariant
          c.args.chain.0 c.head.result.0 c.head.result.1 c.head.ensures,
    )

pub invariant_of-self : goal.invariant_of-self
invariant_of-self c =
    let written = twice_written c.self.inside.slots c.write.new.slots c.write-2.new.slots _ _ _ _ c.write.ensures c.write-2.ensures in
    rw (written.slots, written.capacity, c.with_top-left.ensures, c.without_top-self-inside.ensures)
    (push_edits c.self.inside.slots.slots c.self.inside.slots.capacity c.self.inside.free c.self.inside.spare c.self.invariant
    c.args.chain.0 c.head.result.0 c.head.result.1 c.head.ensures c.args.value c.entry-next.result.0 c.entry-next.result.1
    c.entry-next.ensures (some (goal.at.invariant_of-self c).After-head)).sound

pub returns-clause-chain : goal.returns-clause-chain
returns-clause-chain c =
    let written = twice_written c.self.inside.slots c.write.new.slots c.write-2.new.slots _ _ _ _ c.write.ensures c.write-2.ensures in
    let same : chains_of c.self.inside.slots.slots ≡ c.args.self.now.chains = ap (λ (v : PartedChains). v.chains) c.self.view_is in
    rw (written.slots, c.with_top-left.ensures, ← same)
    (push_edits c.self.inside.slots.slots c.self.inside.slots.capacity c.self.inside.free c.self.inside.spare c.self.invariant
    c.args.chain.0 c.head.result.0 c.head.result.1 c.head.ensures c.args.value c.entry-next.result.0 c.entry-next.result.1
    c.entry-next.ensures (some (goal.at.returns-clause-chain c).After-head)).edit

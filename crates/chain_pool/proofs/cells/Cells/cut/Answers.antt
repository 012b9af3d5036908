use Rattle.chain_pool.proofs.Common.{PartedChains, chains_of, ◌≡◌, ◌<◌, ap, arith}
use Rattle.chain_pool.proofs.Edits.{cut_edits}
use Rattle.chain_pool.proofs.Soundness.{few}
use Rattle.chain_pool.proofs.Writes.{twice_written, right_entry, behind_len}
use Rattle.chain_pool.proofs.cells.Cells.cut.Goals as goal
use Rattle.chain_pool.proofs.cells.Cells.cut.Goals.{After-head}

view : (c : After-head) → chains_of c.self.inside.slots.slots ≡ c.args.self.now.chains
view c = ap (λ (v : PartedChains). v.chains) c.self.view_is

some : (c : After-head) → 0 < c.head.result.1.len
some c =
    let same = behind_len c.self.inside.slots.slots c.self.inside.slots.capacity c.self.inside.free c.self.inside.spare c.self.invariant
    c.args.chain.0 c.head.result.0 c.head.result.1 c.head.ensures c.args.self.now.chains (view c) in grind arith

pub relink-next-requires : goal.relink-next-requires
relink-next-requires c =
    right_entry c.self.inside.slots.slots c.self.inside.slots.capacity c.self.inside.free c.self.inside.spare c.self.invariant
    c.args.chain.0 c.head.result.0 c.head.result.1 c.head.ensures (some (goal.at.relink-next-requires c).After-head)

pub overflow_add-self : goal.overflow_add-self
overflow_add-self c =
    omega (
      arith,
      some (goal.at.overflow_add-self c).After-head,
      c.self.invariant.made,
      few c.self.inside.slots.slots c.self.inside.slots.capacity c.self.inside.free c.self.inside.spare c.self.invariant
          c.args.chain.0 c.head.result.0 c.head.result.1 c.head.ensures,
    )

pub without_top-right-requires : goal.without_top-right-requires
without_top-right-requires c = omega (arith, some (goal.at.without_top-right-requires c).After-head)

pub with_top-self-inside-requires : goal.with_top-self-inside-requires
with_top-self-inside-requires c =
    omega (
      arith,
      some (goal.at.with_top-self-inside-requires c).After-head,
      few c.self.inside.slots.slots c.self.inside.slots.capacity c.self.inside.free c.self.inside.spare c.self.invariant
          c.args.chain.0 c.head.result.0 c.head.result.1 c.head.ensures,
    )

pub invariant_of-self : goal.invariant_of-self
invariant_of-self c =
    let written = twice_written c.self.inside.slots c.relink-next.new.slots c.write.new.slots _ _ _ _ c.relink-next.ensures.2
    c.write.ensures in
    rw (written.slots, written.capacity, c.with_top-self-inside.ensures, c.without_top-right.ensures)
    (cut_edits c.self.inside.slots.slots c.self.inside.slots.capacity c.self.inside.free c.self.inside.spare
    c.self.invariant c.args.chain.0 c.head.result.0 c.head.result.1 c.head.ensures c.relink-next.result c.relink-next.ensures.0
    c.relink-next.ensures.1 (some (goal.at.invariant_of-self c).After-head)).sound

pub returns-clause-chain : goal.returns-clause-chain
returns-clause-chain c =
    let written = twice_written c.self.inside.slots c.relink-next.new.slots c.write.new.slots _ _ _ _ c.relink-next.ensures.2
    c.write.ensures in
    let same : chains_of c.self.inside.slots.slots ≡ c.args.self.now.chains = view (goal.at.returns-clause-chain c).After-head in
    rw (written.slots, c.without_top-right.ensures, ← same)
    (cut_edits c.self.inside.slots.slots c.self.inside.slots.capacity c.self.inside.free c.self.inside.spare
    c.self.invariant c.args.chain.0 c.head.result.0 c.head.result.1 c.head.ensures c.relink-next.result c.relink-next.ensures.0
    c.relink-next.ensures.1 (some (goal.at.returns-clause-chain c).After-head)).edit

use Rattle.chain_pool.proofs.Common.{PartedChains, chains_of, ◌≡◌, ◌<◌, ap, arith, common_steps}
use Rattle.chain_pool.proofs.Heads.{start_sound}
use Rattle.chain_pool.proofs.Writes.{once_written, free_entry}
use Rattle.chain_pool.proofs.cells.Cells.start.Goals as goal
use Rattle.chain_pool.proofs.cells.Cells.start.Goals.{After-write}

pub entry-next-requires : goal.entry-next-requires
entry-next-requires c =
    free_entry c.self.inside.slots.slots c.self.inside.slots.capacity c.self.inside.free c.self.inside.spare c.self.invariant
    (omega (arith, c.requires, ap (λ (v : PartedChains). v.free) c.self.view_is))

some : (c : After-write) → 0 < c.self.inside.free.len
some c = omega (arith, c.requires, ap (λ (v : PartedChains). v.free) c.self.view_is)

pub invariant_of-self : goal.invariant_of-self
invariant_of-self c =
    let written = once_written c.self.inside.slots c.write.new.slots _ _ c.write.ensures in
    rw (written.slots, written.capacity, c.without_top-self-inside.ensures)
    (start_sound c.self.inside.slots.slots c.self.inside.slots.capacity c.self.inside.free c.self.inside.spare c.self.invariant
    c.entry-next.result.0 c.entry-next.result.1 c.entry-next.ensures (some (goal.at.invariant_of-self c).After-write)).sound

pub returns-clause-was : goal.returns-clause-was
returns-clause-was c = grind (arith, common_steps, some)

pub returns-clause-chain : goal.returns-clause-chain
returns-clause-chain c =
    let written = once_written c.self.inside.slots c.write.new.slots _ _ c.write.ensures in
    let same : chains_of c.self.inside.slots.slots ≡ c.args.self.now.chains = ap (λ (v : PartedChains). v.chains) c.self.view_is in
    rw (written.slots, ← same)
    (start_sound c.self.inside.slots.slots c.self.inside.slots.capacity c.self.inside.free c.self.inside.spare c.self.invariant
    c.entry-next.result.0 c.entry-next.result.1 c.entry-next.ensures (some (goal.at.returns-clause-chain c).After-write)).edit

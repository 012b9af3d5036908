use Rattle.chain_pool.proofs.Common.{PartedChains, chains_of, ◌≡◌, ◌<◌, ap, arith}
use Rattle.chain_pool.proofs.Heads.{make_sound}
use Rattle.chain_pool.proofs.cells.Cells.make_cell.Goals as goal
use Rattle.chain_pool.proofs.cells.Cells.make_cell.Goals.{After-insert_reserved-key}

wanted : (c : After-insert_reserved-key) → c.self.inside.free.len < c.self.inside.spare
wanted c = omega (arith, c.requires, ap (λ (v : PartedChains). v.free) c.self.view_is, ap (λ (v : PartedChains). v.spare) c.self.view_is)

pub invariant_of-self : goal.invariant_of-self
invariant_of-self c =
    rw (c.insert_reserved-key.ensures.capacity, c.with_top-self-inside.ensures)
    (make_sound c.self.inside.slots.slots c.self.inside.slots.capacity c.self.inside.free c.self.inside.spare c.self.invariant
    c.insert_reserved-key.new.self.slots c.insert_reserved-key.result 0 c.insert_reserved-key.ensures.was_vacant
    c.insert_reserved-key.ensures.updates.changed c.insert_reserved-key.ensures.updates.others c.insert_reserved-key.ensures.len
    (wanted (goal.at.invariant_of-self c).After-insert_reserved-key)).sound

pub returns-clause-chains : goal.returns-clause-chains
returns-clause-chains c =
    let same : chains_of c.self.inside.slots.slots ≡ c.args.self.now.chains = ap (λ (v : PartedChains). v.chains) c.self.view_is in
    rw (← same) (make_sound c.self.inside.slots.slots c.self.inside.slots.capacity c.self.inside.free c.self.inside.spare c.self.invariant
    c.insert_reserved-key.new.self.slots c.insert_reserved-key.result 0 c.insert_reserved-key.ensures.was_vacant
    c.insert_reserved-key.ensures.updates.changed c.insert_reserved-key.ensures.updates.others c.insert_reserved-key.ensures.len
    (wanted (goal.at.returns-clause-chains c).After-insert_reserved-key)).alike

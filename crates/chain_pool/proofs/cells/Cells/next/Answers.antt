use Rattle.chain_pool.proofs.Common.{PartedChains, memory_of, chains_of, ◌≡◌, ◌<◌, List, ℕ, get_or, ap, sym, ◌∙◌, arith}
use Rattle.chain_pool.proofs.Reading.{values-first}
use Rattle.chain_pool.proofs.Writes.{behind_len, behind_is, right_entry}
use Rattle.chain_pool.proofs.cells.Cells.next.Goals as goal
use Rattle.chain_pool.proofs.cells.Cells.next.Goals.{After-head}

view : (c : After-head) → chains_of c.self.inside.slots.slots ≡ c.args.self.now.chains
view c = ap (λ (v : PartedChains). v.chains) c.self.view_is

some : (c : After-head) → 0 < c.head.result.1.len
some c =
    omega (
      arith,
      behind_len c.self.inside.slots.slots c.self.inside.slots.capacity c.self.inside.free c.self.inside.spare c.self.invariant
          c.args.chain.0 c.head.result.0 c.head.result.1 c.head.ensures c.args.self.now.chains (view c),
      c.requires.behind,
    )

pub entry-value-requires : goal.entry-value-requires
entry-value-requires c =
    right_entry c.self.inside.slots.slots c.self.inside.slots.capacity c.self.inside.free c.self.inside.spare c.self.invariant
    c.args.chain.0 c.head.result.0 c.head.result.1 c.head.ensures (some (goal.at.entry-value-requires c).After-head)

pub returns : goal.returns
returns c =
    sym (ap (λ (l : List ℕ). get_or l 0 0)
    (behind_is c.self.inside.slots.slots c.self.inside.slots.capacity c.self.inside.free c.self.inside.spare c.self.invariant
    c.args.chain.0 c.head.result.0 c.head.result.1 c.head.ensures c.args.self.now.chains (view (goal.at.returns c).After-head)
    ∙ values-first (memory_of c.self.inside.slots.slots) c.head.result.1.len c.head.result.1.top
    c.entry-value.result.0 c.entry-value.result.1 (some (goal.at.returns c).After-head) c.entry-value.ensures))

use Rattle.chain_pool.proofs.Reading.{left_stack, right_stack}
use Rattle.chain_pool.proofs.cells.Cells.halves.Goals as goal

pub new-requires : goal.new-requires
new-requires c =
    left_stack c.self.inside.slots.slots c.self.inside.slots.capacity c.self.inside.free c.self.inside.spare c.self.invariant
    c.args.chain.0 c.head.result.0 c.head.result.1 c.head.ensures

pub new-requires-2 : goal.new-requires-2
new-requires-2 c =
    right_stack c.self.inside.slots.slots c.self.inside.slots.capacity c.self.inside.free c.self.inside.spare c.self.invariant
    c.args.chain.0 c.head.result.0 c.head.result.1 c.head.ensures

use Rattle.chain_pool.proofs.Common.{◌≤◌, ◌-◌}
use Rattle.chain_pool.proofs.Going.{IsGoing}
use Rattle.chain_pool.proofs.cells.Cells.travel.Given as goal

abbrev pub invariant-on : goal.invariant-on
invariant-on l =
    IsGoing l.fn.self l.self-inside.slots.slots l.self-inside.slots.capacity l.self-inside.free l.self-inside.spare l.chain.0 l.left l.right

abbrev pub decreases-on : goal.decreases-on
decreases-on l = l.place - l.left.len

abbrev pub invariant-back : goal.invariant-back
invariant-back l =
    IsGoing l.fn.self l.self-inside.slots.slots l.self-inside.slots.capacity l.self-inside.free l.self-inside.spare l.chain.0 l.left l.right
    × (l.place ≤ l.left.len)

abbrev pub decreases-back : goal.decreases-back
decreases-back l = l.left.len

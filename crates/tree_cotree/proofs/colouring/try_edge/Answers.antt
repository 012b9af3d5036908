use Rattle.tree_cotree.proofs.Common.{rotation_system, OrientedMesh, ◌≡◌, ◌<◌, length, arith, common_steps, has_kind, Left}
use Rattle.tree_cotree.proofs.JoiningLemmas.{ends_within}
use Rattle.tree_cotree.proofs.ColouringLemmas.{has_nodes}
use Rattle.tree_cotree.proofs.colouring.try_edge.Goals as goal
use Rattle.tree_cotree.proofs.colouring.try_edge.Goals.{After-ends-first, After-is_same}

-- the two nodes at the edge are in classes
within : (c : After-ends-first)
    → (c.ends-first.result.0 < length c.args.classes.now) × (c.ends-first.result.1 < length c.args.classes.now)
within c =
    let s : OrientedMesh = c.args.surface.now in
    let at = ends_within (rotation_system s c.requires.valid) (has_nodes c.requires.valid c.args.nodes) c.ends-first.ensures in
    (omega (arith, at.0.0, c.requires.classes), omega (arith, at.1.0, c.requires.classes))

-- the test is whether the edge is left over
read : (c : After-is_same) → c.is_same.result ≡ has_kind c.args.kinds.now.items Left c.args.edge.0
read c = grind (arith, common_steps)

pub join_apart-requires-clause-first : goal.join_apart-requires-clause-first
join_apart-requires-clause-first c = (within (goal.at.join_apart-requires-clause-first c).After-ends-first).0

pub join_apart-requires-clause-second : goal.join_apart-requires-clause-second
join_apart-requires-clause-second c = (within (goal.at.join_apart-requires-clause-second c).After-ends-first).1

pub returns-then-join_apart : goal.returns-then-join_apart
returns-then-join_apart c = grind (arith, read)

pub returns-else-join_apart : goal.returns-else-join_apart
returns-else-join_apart c = grind (arith, read)

pub returns-else-is_same : goal.returns-else-is_same
returns-else-is_same c = grind (arith, read)

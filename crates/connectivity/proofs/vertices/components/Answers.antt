use Rattle.connectivity.proofs.Common.{AreComponents, ◌+◌, ℕ, List, ap, sym, ◌∙◌, subst, arith, range_with_len}
use Rattle.connectivity.proofs.EdgeLemmas.{ends_below}
use Rattle.connectivity.proofs.ComponentLemmas.{JoinsEdgesUpTo, edges_none, edges_more, edges_all}
use Rattle.connectivity.proofs.vertices.components.Goals as goal

pub loop-edge-init : goal.loop-edge-init
loop-edge-init c =
    edges_none c.args.faces.now c.args.sides.now c.in_ok-vertices.vertices
    (c.in_ok-vertices.ensures ∙ ap (range_with_len 0) c.count.ensures.count)

pub join-requires-clause-first : goal.join-requires-clause-first
join-requires-clause-first c =
    let below = ends_below c.args.faces.now c.args.sides.now c.loop-edge.edge c.count.ensures.valid c.requires.table (omega arith) in
    omega (arith, c.loop-edge.invariant.count, below.0)

pub join-requires-clause-second : goal.join-requires-clause-second
join-requires-clause-second c =
    let below = ends_below c.args.faces.now c.args.sides.now c.loop-edge.edge c.count.ensures.valid c.requires.table (omega arith) in
    omega (arith, c.loop-edge.invariant.count, below.1)

pub loop-edge-preserved : goal.loop-edge-preserved
loop-edge-preserved c =
    subst (λ (least : List ℕ). JoinsEdgesUpTo c.args.faces.now c.args.sides.now least (c.loop-edge.edge + 1)) (sym c.join.ensures)
    (edges_more c.args.faces.now c.args.sides.now c.loop-edge.vertices c.loop-edge.edge c.ends.result.0.0 c.ends.result.1.0
    c.count.ensures.valid c.requires.table
    (omega arith) c.ends.ensures.low c.ends.ensures.high c.loop-edge.invariant)

pub returns-clause-components : goal.returns-clause-components
returns-clause-components c =
    subst (AreComponents c.args.faces.now) (sym c.into_least.ensures.members)
    (edges_all c.args.faces.now c.args.sides.now c.loop-edge.vertices c.loop-edge.edge c.requires.table (omega arith) c.loop-edge.invariant)

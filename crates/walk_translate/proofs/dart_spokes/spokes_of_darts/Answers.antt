use Rattle.walk_translate.proofs.Common.{listed, spokes, spoke_list, ◌≡◌, sym, ◌∙◌, arith, edge_swap, table_pair, edge_in}
use Rattle.walk_translate.proofs.SpokedLemmas.{spokes_more}
use Rattle.walk_translate.proofs.dart_spokes.spokes_of_darts.Goals as goal

pub spokes-requires-clause-edge : goal.spokes-requires-clause-edge
spokes-requires-clause-edge c =
    rw (c.ends.ensures.low, c.ends.ensures.high)
    (table_pair c.args.faces.now c.args.sides.now c.loop-edge.edge c.requires.table
    (omega (arith, c.loop-edge-test.true, c.len-edge-end.ensures)))

pub spokes-requires-in-loop-edge-clause-edge : goal.spokes-requires-in-loop-edge-clause-edge
spokes-requires-in-loop-edge-clause-edge c =
    edge_swap c.args.faces.now c.ends.result.1.0 c.ends.result.0.0
    ∙ rw (c.ends.ensures.low, c.ends.ensures.high)
    (table_pair c.args.faces.now c.args.sides.now c.loop-edge.edge c.requires.table
    (omega (arith, c.loop-edge-test.true, c.len-edge-end.ensures)))

pub loop-edge-preserved : goal.loop-edge-preserved
loop-edge-preserved c =
    let mesh = c.args.faces.now in
    let labelling = c.args.good.now in
    let table = c.args.sides.now in
    let k = c.loop-edge.edge in
    let there = c.spokes.result in
    let back = c.spokes-in-loop-edge.result in
    let up : spokes mesh labelling (edge_in table k).low (edge_in table k).high ≡ spoke_list there =
    rw (sym c.ends.ensures.low, sym c.ends.ensures.high) (listed there _ c.spokes.ensures) in
    let down : spokes mesh labelling (edge_in table k).high (edge_in table k).low ≡ spoke_list back =
    rw (sym c.ends.ensures.low, sym c.ends.ensures.high) (listed back _ c.spokes-in-loop-edge.ensures) in
    rw (c.in_ok-push-2.ensures.items, c.in_ok-push.ensures.items)
    (spokes_more mesh labelling table k c.loop-edge.spokes.items there back c.loop-edge.invariant up down)

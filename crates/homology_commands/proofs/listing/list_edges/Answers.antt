use Rattle.homology_commands.proofs.Common.{number_at, EdgeNumber, ListsEdges, ◌≡◌, ℕ, ◌<◌, List, length, sym, ap, ◌∙◌, subst, arith, ℤ, All, Edge, IsPairBefore, edge_in}
use Rattle.homology_commands.proofs.ListedLemmas.{edge_more, edges_before, no_edges, number_sent}
use Rattle.homology_commands.proofs.listing.list_edges.Goals as goal
use Rattle.homology_commands.proofs.listing.list_edges.Goals.{After-ends}

pub loop-edge-init : goal.loop-edge-init
loop-edge-init c =
    subst (ListsEdges c.args.surface.now.table (number_at c.args.numbers.now) 0) (sym c.new-lines.ensures)
    (no_edges c.args.surface.now.table (number_at c.args.numbers.now))

pub ends-requires : goal.ends-requires
ends-requires c =
    subst (λ (t : List Edge). c.loop-edge.edge < length t) (sym c.sides.ensures.table)
    (omega (arith, c.loop-edge-test.true, c.len-edge-end.ensures, c.requires.each_edge))

-- the edge has the ends that the table has
low_is : (c : After-ends) → c.ends.result.0.0 ≡ (edge_in c.args.surface.now.table c.loop-edge.edge).low
low_is c = c.ends.ensures.low ∙ ap (λ (t : List Edge). (edge_in t c.loop-edge.edge).low) c.sides.ensures.table

high_is : (c : After-ends) → c.ends.result.1.0 ≡ (edge_in c.args.surface.now.table c.loop-edge.edge).high
high_is c = c.ends.ensures.high ∙ ap (λ (t : List Edge). (edge_in t c.loop-edge.edge).high) c.sides.ensures.table

-- those before it in the table come before it
rises : (c : After-ends) → let table : List Edge = c.args.surface.now.table in let edge : ℕ = c.loop-edge.edge in (j : ℕ) → j < edge
    → IsPairBefore (edge_in table j).low (edge_in table j).high (edge_in table edge).low (edge_in table edge).high
rises c = λ j less.
    c.sides.ensures.valid.table.rising j c.loop-edge.edge _ less
    (omega (arith, c.loop-edge-test.true, c.len-edge-end.ensures, c.requires.each_edge))

pub list_edge-requires-clause-above : goal.list_edge-requires-clause-above
list_edge-requires-clause-above c =
    let table : List Edge = c.args.surface.now.table in
    let edge : ℕ = c.loop-edge.edge in
    let sent = (goal.at.list_edge-requires-clause-above c).After-ends in
    subst (λ n. All (λ (other : EdgeNumber). IsPairBefore other.low.0 other.high.0 n c.ends.result.1.0) c.loop-edge.lines)
    (sym (low_is sent))
    (subst (λ n. All (λ (other : EdgeNumber). IsPairBefore other.low.0 other.high.0 (edge_in table edge).low n) c.loop-edge.lines)
    (sym (high_is sent)) (edges_before table (number_at c.args.numbers.now) edge c.loop-edge.lines c.loop-edge.invariant (rises sent)))

pub list_edge-requires-clause-small : goal.list_edge-requires-clause-small
list_edge-requires-clause-small c =
    (number_sent c.args.numbers.now c.loop-edge.edge c.at-number.result c.requires.small c.at-number.ensures).small

pub list_edge-requires-clause-few : goal.list_edge-requires-clause-few
list_edge-requires-clause-few c =
    omega (arith, c.loop-edge.invariant.few, c.loop-edge-test.true, c.len-edge-end.ensures)

pub loop-edge-preserved : goal.loop-edge-preserved
loop-edge-preserved c =
    let numbers : List ℤ = c.args.numbers.now in
    let edge : ℕ = c.loop-edge.edge in
    let sent = (goal.at.loop-edge-preserved c).After-ends in
    let number = number_sent numbers edge c.at-number.result c.requires.small c.at-number.ensures in
    edge_more c.args.surface.now.table (number_at numbers) edge c.loop-edge.lines c.loop-edge.invariant (rises sent) _
    c.list_edge.new.lines (sym (low_is sent)) (sym (high_is sent)) number.is c.list_edge.ensures.fits c.in_ok-list_edge.ensures.zero
    c.in_ok-list_edge.ensures.listed

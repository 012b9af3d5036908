use Rattle.manifold_check.proofs.Common.{ends_below, ◌≡◌, ◌+◌, ◌<◌, ℕ, List, get_or, length, ◌∙◌, subst, arith, get_or_read, length-set, counted_more, group_of_within, IsCounted, Edge}
use Rattle.manifold_check.proofs.MeasureLemmas.{place_of_edge, low_placed, edges_counted}
use Rattle.manifold_check.proofs.measuring.count_edges.Goals as goal
use Rattle.manifold_check.proofs.measuring.count_edges.Goals.{After-part_of}

pub part_of-requires : goal.part_of-requires
part_of-requires c =
    let there : c.loop-edge.edge < length c.args.sides.now = omega (arith, c.loop-edge-test.true, c.len-edge-end.ensures) in
    let below = ends_below c.args.faces.now c.args.sides.now c.loop-edge.edge c.len.ensures.valid c.requires.table there in
    omega (arith, below.0, c.ends.ensures.low, c.requires.parts.places.each_vertex)

-- the component of the edge, and that it is counted
placed : (c : After-part_of) → (c.part_of.result ≡ place_of_edge c.args.sides.now c.args.parts.now c.loop-edge.edge)
    × (c.part_of.result < length c.loop-edge.counts.items)
placed c =
    let table : List Edge = c.args.sides.now in
    let parts = c.args.parts.now in
    let there : c.loop-edge.edge < length table = omega (arith, c.loop-edge-test.true, c.len-edge-end.ensures) in
    let is : c.part_of.result ≡ place_of_edge table parts c.loop-edge.edge = grind arith in
    let below = low_placed c.args.faces.now table parts c.loop-edge.edge c.requires.table c.requires.parts there in
    (is, omega (arith, is, below, c.loop-edge.invariant.many))

pub index_mut-requires : goal.index_mut-requires
index_mut-requires c = omega (arith, (placed (goal.at.index_mut-requires c).After-part_of).1, c.loop-edge.counts.ok.0)

pub overflow_add-index_mut : goal.overflow_add-index_mut
overflow_add-index_mut c =
    let place : ℕ = c.part_of.result in
    let inside : place < length c.loop-edge.counts.items = (placed (goal.at.overflow_add-index_mut c).After-part_of).1 in
    let read : c.index_mut.result.now ≡ get_or c.loop-edge.counts.items place 0 =
    get_or_read c.loop-edge.counts.items place _ inside c.index_mut.ensures.value 0 in
    omega (
      arith,
      read,
      c.loop-edge.invariant.counted place inside,
      group_of_within (place_of_edge c.args.sides.now c.args.parts.now) place c.loop-edge.edge,
      c.loop-edge-test.true,
      c.len-edge-end.type_inv,
    )

pub loop-edge-preserved : goal.loop-edge-preserved
loop-edge-preserved c =
    let table : List Edge = c.args.sides.now in
    let parts = c.args.parts.now in
    let place : ℕ = c.part_of.result in
    let counts : List ℕ = c.loop-edge.counts.items in
    let at = placed (goal.at.loop-edge-preserved c).After-part_of in
    let read : c.index_mut.result.now ≡ get_or counts place 0 = get_or_read counts place _ at.1 c.index_mut.ensures.value 0 in
    record {
      many = length-set counts place (c.index_mut.result.now + 1) ∙ c.loop-edge.invariant.many;
      counted = grind (arith, counted_more);
    }

pub returns-clause-counted : goal.returns-clause-counted
returns-clause-counted c = λ k alone l is.
    let table : List Edge = c.args.sides.now in
    let parts = c.args.parts.now in
    let counts : List ℕ = c.loop-edge.counts.items in
    let all : c.loop-edge.edge ≡ length table = omega (arith, c.loop-edge-test.false, c.len-edge-end.ensures, c.loop-edge.auto.edge-end) in
    edges_counted c.args.faces.now table parts counts k alone c.requires.table c.requires.parts l
    (omega (arith, l, c.loop-edge.invariant.many))
    (subst (λ n. IsCounted (place_of_edge table parts) n counts) all c.loop-edge.invariant.counted) is

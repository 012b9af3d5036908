use Rattle.homology.proofs.Common.{number_at, EdgeNumber, MOST_NUMBER, ◌≡◌, true, ℕ, ◌<◌, ◌≤◌, List, length, set, ap, ◌∙◌, subst, arith, get_or, common_steps, length-set, get_or_default, get_or_from_slice_get, unsigned_abs, IsEdgeBetween, edge_between, edge_in, is_edge}
use Rattle.homology.proofs.SizeLemmas.{sent}
use Rattle.homology.proofs.ChainVerdictLemmas.{number_at-zeros}
use Rattle.homology.proofs.NumbersLemmas.{edge_written, edges_small}
use Rattle.homology.proofs.numbers.numbers_by_edge.Goals as goal
use Rattle.homology.proofs.numbers.numbers_by_edge.Goals.{After-at-line}

-- the line that was read
read : (c : After-at-line) → get_or c.args.numbers.now c.loop-k.k c.at-line.result ≡ c.at-line.result
read c = get_or_from_slice_get c.args.numbers.now c.loop-k.k c.at-line.result c.at-line.result c.at-line.ensures

pub edge_between-edge-requires : goal.edge_between-edge-requires
edge_between-edge-requires c =
    let line : EdgeNumber = c.at-line.result in
    let edge : is_edge c.args.faces.now line.low.0 line.high.0 ≡ true =
    subst (λ (x : EdgeNumber). is_edge c.args.faces.now x.low.0 x.high.0 ≡ true)
    (read (goal.at.edge_between-edge-requires c).After-at-line) (c.requires.edges c.loop-k.k line (omega arith)) in
    let found : IsEdgeBetween c.args.sides.now line.low.0 line.high.0 =
    edge_between c.args.faces.now c.args.sides.now line.low.0 line.high.0 c.requires.table edge in (
      found.edge,
      edge_in c.args.sides.now found.edge,
      found.in_table,
      get_or_default c.args.sides.now found.edge _ _ found.in_table,
      found.ends,
    )

pub loop-k-init : goal.loop-k-init
loop-k-init c = grind (arith, number_at, number_at-zeros)

pub loop-k-preserved : goal.loop-k-preserved
loop-k-preserved c =
    let lines : List EdgeNumber = c.args.numbers.now in
    let line : EdgeNumber = c.at-line.result in
    let k : ℕ = c.loop-k.k in
    let within : k < length lines = omega arith in
    let small : unsigned_abs line.number ≤ MOST_NUMBER =
    subst (λ (x : EdgeNumber). unsigned_abs x.number ≤ MOST_NUMBER) (read (goal.at.loop-k-preserved c).After-at-line)
    (c.len-k-end.ensures.valid.small k line within) in
    record {
      long = length-set c.loop-k.of_edge.items c.edge_between-edge.result.0 _ ∙ c.loop-k.invariant.long;
      each = λ f l. edge_written c.args.faces.now c.args.sides.now lines k c.edge_between-edge.result.0 f line c.loop-k.of_edge.items _
          c.requires.table c.len-k-end.ensures.valid within c.at-line.ensures c.edge_between-edge.ensures.found l
          c.edge_between-edge.ensures.ends c.loop-k.invariant.long
          (ap (set c.loop-k.of_edge.items c.edge_between-edge.result.0) (sent line.number (omega (arith, small))))
          (c.loop-k.invariant.each f l);
    }

pub returns-clause-numbers : goal.returns-clause-numbers
returns-clause-numbers c = grind (arith, common_steps)

pub returns-clause-small : goal.returns-clause-small
returns-clause-small c = grind (arith, edges_small, returns-clause-numbers)

use Rattle.homology.proofs.Common.{number_at, MOST_NUMBER, ◌≤◌, ℕ, sym, ◌∙◌, subst, arith, eqb-false, eqb-true, get_or_from_slice_get, unsigned_abs, IsSideOfEdge, side_of_edge, table_edge, Edge, edge_in, Side}
use Rattle.homology.proofs.SizeLemmas.{sent, sent_back}
use Rattle.homology.proofs.SideNumberLemmas.{against_side, along_side}
use Rattle.homology.proofs.side_numbers.number_by_side.Goals as goal
use Rattle.homology.proofs.side_numbers.number_by_side.Goals.{After-side}

-- the side is one of the edge
of_edge : (c : After-side) → IsSideOfEdge c.args.faces.now (edge_in c.args.sides.now c.args.edge.0) c.side.result
of_edge c =
    let none : Side = record { face = record { 0 = 0 }; at = 0 } in
    let edge : Edge = edge_in c.args.sides.now c.args.edge.0 in
    let is = table_edge c.args.faces.now c.args.sides.now c.args.edge.0 c.requires.table c.requires.edge in
    subst (IsSideOfEdge c.args.faces.now edge) (get_or_from_slice_get edge.sides 0 c.side.result none c.side.ensures)
    (side_of_edge c.args.faces.now edge 0 none is is.some_side)

pub dart-dart-requires : goal.dart-dart-requires
dart-dart-requires c = (of_edge (goal.at.dart-dart-requires c).After-side).side_of

pub returns-then-eq-clause-number : goal.returns-then-eq-clause-number
returns-then-eq-clause-number c = λ number even.
    let mesh = c.args.faces.now in
    let edge : Edge = edge_in c.args.sides.now c.args.edge.0 in
    let d : ℕ = c.dart-dart.result.0 in
    let is = table_edge mesh c.args.sides.now c.args.edge.0 c.requires.table c.requires.edge in
    let on = of_edge (goal.at.returns-then-eq-clause-number c).After-side in
    let from = c.corner_at.ensures c.side.result on.side_of (sym c.dart-dart.ensures.number) in
    let small : unsigned_abs (number_at c.args.of_side.now d) ≤ MOST_NUMBER = c.requires.small.each d in
    sent (number_at c.args.of_side.now d) (omega (arith, small))
    ∙ along_side mesh c.args.of_side.now number edge c.side.result d c.corner_at.result.0 is.ordered on (sym c.dart-dart.ensures.number)
    c.dart-dart.ensures.below from even (eqb-true _ _ (sym c.eq.ensures ∙ c.if-eq.true) ∙ c.ends.ensures.low)

pub returns-else-eq-clause-number : goal.returns-else-eq-clause-number
returns-else-eq-clause-number c = λ number even.
    let mesh = c.args.faces.now in
    let edge : Edge = edge_in c.args.sides.now c.args.edge.0 in
    let d : ℕ = c.dart-dart.result.0 in
    let is = table_edge mesh c.args.sides.now c.args.edge.0 c.requires.table c.requires.edge in
    let on = of_edge (goal.at.returns-else-eq-clause-number c).After-side in
    let from = c.corner_at.ensures c.side.result on.side_of (sym c.dart-dart.ensures.number) in
    let there = against_side mesh c.args.of_side.now number edge c.side.result d c.corner_at.result.0 is.ordered on
    (sym c.dart-dart.ensures.number) c.dart-dart.ensures.below from even
    (λ e. eqb-false _ _ (sym c.eq.ensures ∙ c.if-eq.false) (e ∙ sym c.ends.ensures.low)) in grind (arith, sent_back, number_at)

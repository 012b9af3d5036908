use Rattle.labellings.proofs.Common.{rules, ◌≡◌, ◌≢◌, sym, ◌∙◌, arith}
use Rattle.labellings.proofs.SpokeLemmas.{two-sides, is-side, spokes-along, spokes-against}
use Rattle.labellings.proofs.darts.spokes_between.Goals as goal

pub labelled-one-requires-clause-side : goal.labelled-one-requires-clause-side
labelled-one-requires-clause-side c =
    is-side c.args.faces.now c.args.sides.now c.args.labelling.now c.args.edge.0 0 c.side.result c.requires.good c.requires.table
    c.requires.edge (omega arith) c.side.ensures

pub side-requires-2-clause-side : goal.side-requires-2-clause-side
side-requires-2-clause-side c = grind (arith, two-sides)

pub labelled-two-requires-clause-side : goal.labelled-two-requires-clause-side
labelled-two-requires-clause-side c =
    is-side c.args.faces.now c.args.sides.now c.args.labelling.now c.args.edge.0 1 c.side-2.result c.requires.good c.requires.table
    c.requires.edge (omega arith) c.side-2.ensures

pub returns-then-eq : goal.returns-then-eq
returns-then-eq c = λ to ends.
    let starts : c.labelled-one.result.tail.0 ≡ c.args.from.0 = search rules in
    let along = spokes-along c.args.faces.now c.args.sides.now c.args.labelling.now c.args.edge.0 c.args.from.0 to c.side.result
    c.side-2.result c.len.ensures.valid c.requires.good c.requires.table c.requires.edge ends c.side.ensures c.side-2.ensures
    (sym c.labelled-one.ensures.tail ∙ starts) in grind arith

pub returns-else-eq : goal.returns-else-eq
returns-else-eq c = λ to ends.
    let other : c.labelled-one.result.tail.0 ≢ c.args.from.0 = search rules in
    let against = spokes-against c.args.faces.now c.args.sides.now c.args.labelling.now c.args.edge.0 c.args.from.0 to c.side.result
    c.side-2.result c.len.ensures.valid c.requires.good c.requires.table c.requires.edge ends c.side.ensures c.side-2.ensures
    (λ e. other (c.labelled-one.ensures.tail ∙ e)) in grind arith

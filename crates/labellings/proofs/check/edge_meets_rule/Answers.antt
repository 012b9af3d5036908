use Rattle.labellings.proofs.Common.{◌≡◌, length, subst, arith, get_or_from_slice_get, side_of_edge, IsSide, edge_in, Side}
use Rattle.labellings.proofs.EdgeRuleLemmas.{rule-from-sides, sides-from-rule}
use Rattle.labellings.proofs.check.edge_meets_rule.Goals as goal

pub sides_meet_rule-requires-clause-side : goal.sides_meet_rule-requires-clause-side
sides_meet_rule-requires-clause-side c =
    let mesh = c.args.faces.now in
    let table = c.args.sides.now in
    let k = c.args.edge.0 in
    let none : Side = record { face = record { 0 = 0 }; at = 0 } in
    let sides = (edge_in table k).sides in
    subst (IsSide mesh) (get_or_from_slice_get sides 0 c.side-side.result none c.side-side.ensures)
    (side_of_edge mesh (edge_in table k) 0 none (c.requires.table.edges k _ c.requires.edge) (omega arith)).side_of

pub sides_meet_rule-requires-clause-other : goal.sides_meet_rule-requires-clause-other
sides_meet_rule-requires-clause-other c =
    let mesh = c.args.faces.now in
    let table = c.args.sides.now in
    let k = c.args.edge.0 in
    let none : Side = record { face = record { 0 = 0 }; at = 0 } in
    let sides = (edge_in table k).sides in
    subst (IsSide mesh) (get_or_from_slice_get sides 1 c.side-other.result none c.side-other.ensures)
    (side_of_edge mesh (edge_in table k) 1 none (c.requires.table.edges k _ c.requires.edge) (omega arith)).side_of

pub returns : goal.returns
returns c =
    let mesh = c.args.faces.now in
    let table = c.args.sides.now in
    let k = c.args.edge.0 in
    let none : Side = record { face = record { 0 = 0 }; at = 0 } in
    let sides = (edge_in table k).sides in
    let two : length sides ≡ 2 = omega (arith, c.sides_of.ensures, c.if-sides_of-ne2.false) in
    let first = get_or_from_slice_get sides 0 c.side-side.result none c.side-side.ensures in
    let second = get_or_from_slice_get sides 1 c.side-other.result none c.side-other.ensures in (
      (λ meets. rule-from-sides mesh table c.args.labelling.now k c.side-side.result c.side-other.result none c.requires.table
          c.requires.edge first second two (c.sides_meet_rule.ensures.0 meets)),
      (λ meets. c.sides_meet_rule.ensures.1 (sides-from-rule mesh table c.args.labelling.now k c.side-side.result c.side-other.result
          none c.requires.table c.requires.edge first second meets)),
    )

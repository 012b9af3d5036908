use Rattle.folded_lists.proofs.Common.{arith}
use Rattle.folded_lists.proofs.DartCounts.{darts_fewer, darts_more, darts_round}
use Rattle.folded_lists.proofs.folding.darts_after.Goals as goal

pub overflow_add-result : goal.overflow_add-result
overflow_add-result c =
    let r = c.requires in
    omega (arith, r.3, r.5, darts_more c.args.faces.now r.0 r.1 c.args.mv c.in-Insert.at c.in-Insert.via c.in-Insert.is r.2 r.4)

pub overflow_sub-result : goal.overflow_sub-result
overflow_sub-result c =
    let r = c.requires in
    omega (arith, r.3, darts_fewer c.args.faces.now r.0 r.1 c.args.mv c.in-Remove.at c.in-Remove.via c.in-Remove.is r.2 r.4)

pub overflow_sub-result-in-Across : goal.overflow_sub-result-in-Across
overflow_sub-result-in-Across c =
    let r = c.requires in
    let a = c.in-Across in
    omega (arith, r.3, (darts_round c.args.faces.now r.0 r.1 c.args.mv a.at a.face a.corner a.forward a.taken a.is r.2 r.4).within)

pub sides-requires : goal.sides-requires
sides-requires c =
    let r = c.requires in
    let a = c.in-Across in
    (darts_round c.args.faces.now r.0 r.1 c.args.mv a.at a.face a.corner a.forward a.taken a.is r.2 r.4).in_list

pub overflow_sub-result-in-Across-2 : goal.overflow_sub-result-in-Across-2
overflow_sub-result-in-Across-2 c =
    let r = c.requires in
    let a = c.in-Across in
    let round = darts_round c.args.faces.now r.0 r.1 c.args.mv a.at a.face a.corner a.forward a.taken a.is r.2 r.4 in
    omega (arith, c.sides.ensures, round.sides)

pub overflow_add-result-in-Across : goal.overflow_add-result-in-Across
overflow_add-result-in-Across c =
    let r = c.requires in
    let a = c.in-Across in
    omega (
      arith,
      c.sides.ensures,
      r.3,
      r.5,
      (darts_round c.args.faces.now r.0 r.1 c.args.mv a.at a.face a.corner a.forward a.taken a.is r.2 r.4).long,
    )

pub returns-in-Insert : goal.returns-in-Insert
returns-in-Insert c = λ walk next some long e.
    omega (arith, long, darts_more c.args.faces.now walk next c.args.mv c.in-Insert.at c.in-Insert.via c.in-Insert.is some e)

pub returns-in-Remove : goal.returns-in-Remove
returns-in-Remove c = λ walk next some long e.
    omega (arith, long, darts_fewer c.args.faces.now walk next c.args.mv c.in-Remove.at c.in-Remove.via c.in-Remove.is some e)

pub returns-in-Across : goal.returns-in-Across
returns-in-Across c = λ walk next some long e.
    let a = c.in-Across in
    omega (
      arith,
      c.sides.ensures,
      long,
      (darts_round c.args.faces.now walk next c.args.mv a.at a.face a.corner a.forward a.taken a.is some e).long,
    )

use Rattle.spoke_paths.proofs.StepsKeep.{quad-is}
use Rattle.spoke_paths.proofs.Ways.{lower-from-vertex, upper-from-vertex, lower-from-middle, upper-from-middle}
use Rattle.spoke_paths.proofs.turn.other_way.Goals as goal

pub returns-in-true-true-clause-ways : goal.returns-in-true-true-clause-ways
returns-in-true-true-clause-ways c =
    let turn = rw (c.in-true-true.is-0, c.in-true-true.is-1) at c.requires.turn in
    rw (c.in-true-true.is-0, c.in-true-true.is-1) (
    lower-from-vertex c.args.wheel.now c.degree-degree.ensures.wheel c.requires.quads c.args.first c.args.second c.partner_of-side.result
    c.requires.first c.requires.second turn
    )

pub returns-in-true-false-clause-ways : goal.returns-in-true-false-clause-ways
returns-in-true-false-clause-ways c =
    let turn = rw (c.in-true-false.is-0, c.in-true-false.is-1) at c.requires.turn in
    rw (c.in-true-false.is-0, c.in-true-false.is-1) (
    upper-from-vertex c.args.wheel.now c.degree-degree.ensures.wheel c.requires.quads c.args.first c.args.second c.partner_of-partner.result
    c.requires.first c.requires.second turn
    )

pub returns-in-false-true-clause-ways : goal.returns-in-false-true-clause-ways
returns-in-false-true-clause-ways c =
    let turn = rw (c.in-false-true.is-0, c.in-false-true.is-1) at c.requires.turn in
    let quad = quad-is c.args.wheel.now c.partner_of-side-in-false-true.result c.args.first c.partner_of-side-in-false-true.ensures.back in
    rw (c.in-false-true.is-0, c.in-false-true.is-1) (
    lower-from-middle c.args.wheel.now c.degree-degree.ensures.wheel c.requires.quads c.args.first c.args.second
    c.partner_of-side-in-false-true.result quad c.requires.second turn
    )

pub returns-in-false-false-clause-ways : goal.returns-in-false-false-clause-ways
returns-in-false-false-clause-ways c =
    let turn = rw (c.in-false-false.is-0, c.in-false-false.is-1) at c.requires.turn in
    let quad = quad-is c.args.wheel.now c.args.second c.partner_of-partner-in-false-false.result
    c.partner_of-partner-in-false-false.ensures.quad in
    rw (c.in-false-false.is-0, c.in-false-false.is-1) (
    upper-from-middle c.args.wheel.now c.degree-degree.ensures.wheel c.requires.quads c.args.first c.args.second
    c.partner_of-partner-in-false-false.result quad c.requires.first turn
    )

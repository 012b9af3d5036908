use Rattle.spoke_paths.proofs.Common.{arith}
use Rattle.spoke_paths.proofs.Turning.{turn-leads, turned-over, turned-below}
use Rattle.spoke_paths.proofs.turn.turn_over.Goals as goal

pub returns-clause-leads : goal.returns-clause-leads
returns-clause-leads c rest = grind (arith, turn-leads)

pub returns-clause-turned : goal.returns-clause-turned
returns-clause-turned c =
    let way = c.other_way-way in
    turned-over c.args.wheel.now way.ensures.wheel c.requires.quads way.result.side way.result.partner c.args.up c.args.at c.args.path.now
    way.result.first
    way.result.second c.requires.within way.ensures.quad way.ensures.ways way.ensures.others

pub returns-clause-below : goal.returns-clause-below
returns-clause-below c = grind (arith, turned-below)

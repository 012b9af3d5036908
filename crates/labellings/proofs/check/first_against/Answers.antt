use Rattle.labellings.proofs.Common.{EntryMeetsRule, rules, below_more}
use Rattle.labellings.proofs.check.first_against.Goals as goal

pub loop-edge-preserved : goal.loop-edge-preserved
loop-edge-preserved c =
    let meets : EntryMeetsRule c.args.faces.now c.args.sides.now c.args.labelling.now c.loop-edge.edge = search rules in
    below_more (EntryMeetsRule c.args.faces.now c.args.sides.now c.args.labelling.now) c.loop-edge.edge c.loop-edge.invariant meets

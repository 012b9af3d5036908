use Rattle.orientation_cover.proofs.Common.{◌<◌, length, rules, HasEnds, edge_in}
use Rattle.orientation_cover.proofs.TurnLemmas.{side_of_pair}
use Rattle.orientation_cover.proofs.lifting.corners_between.Goals as goal

pub after-requires : goal.after-requires
after-requires c =
    let below : c.unwrap-edge.result.0 < length c.args.sides.now = search rules in
    let ends : HasEnds c.args.from.0 c.args.to.0 (edge_in c.args.sides.now c.unwrap-edge.result.0) = search rules in
    (side_of_pair c.args.faces.now c.args.sides.now c.unwrap-edge.result.0 c.args.from.0 c.args.to.0 c.side-side.result c.requires.table
    below ends c.side-side.ensures).in_mesh

pub returns-clause-side : goal.returns-clause-side
returns-clause-side c =
    let below : c.unwrap-edge.result.0 < length c.args.sides.now = search rules in
    let ends : HasEnds c.args.from.0 c.args.to.0 (edge_in c.args.sides.now c.unwrap-edge.result.0) = search rules in
    side_of_pair c.args.faces.now c.args.sides.now c.unwrap-edge.result.0 c.args.from.0 c.args.to.0 c.side-side.result c.requires.table
    below ends c.side-side.ensures

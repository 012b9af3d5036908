use Rattle.orientation_cover.proofs.Common.{turns_along, told_by, ◌≡◌, ◌∙◌, rules}
use Rattle.orientation_cover.proofs.TurnLemmas.{told_by_side}
use Rattle.orientation_cover.proofs.lifting.turns.Goals as goal

pub returns : goal.returns
returns c =
    let mesh = c.args.faces.now in
    let told : c.differ.result ≡ turns_along mesh (told_by mesh c.args.ways.now) c.corners_between.result.0 = search rules in
    told
    ∙ told_by_side mesh (told_by mesh c.args.ways.now) c.len.ensures.valid c.requires.ways.ways c.args.from.0 c.args.to.0
    c.corners_between.result.0 c.corners_between.ensures.side

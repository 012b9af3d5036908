use Rattle.folded_lists.proofs.Common.{arith}
use Rattle.folded_lists.proofs.MovesOnMesh.{kept_below, mirror_named}
use Rattle.folded_lists.proofs.below.across_below.Goals as goal

pub returns-then-face-count : goal.returns-then-face-count
returns-then-face-count c =
    kept_below c.args.faces.now c.args.double.now c.requires.double c.len-count.ensures.valid c.args.place c.args.face.0 c.args.corner
    c.args.forward c.args.taken (omega (arith, c.if-face-count.true, c.len-count.ensures.count))

pub returns-then-face-count-2 : goal.returns-then-face-count-2
returns-then-face-count-2 c =
    mirror_named c.args.faces.now c.args.double.now c.requires.double c.len-count.ensures.valid c.args.place c.args.face.0 c.args.corner
    c.args.forward c.args.taken c.len-count.result c.sides.result c.len-count.ensures.count c.sides.ensures
    (omega (arith, c.if-face-count.false)) (omega (arith, c.if-face-count-2.true))

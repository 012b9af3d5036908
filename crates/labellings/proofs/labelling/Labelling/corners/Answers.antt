use Rattle.labellings.proofs.Common.{arith, get_or_read}
use Rattle.labellings.proofs.StoredLabellingLemmas.{labels_lie_at}
use Rattle.labellings.proofs.labelling.Labelling.corners.Goals as goal

pub index-requires : goal.index-requires
index-requires c =
    let here = labels_lie_at _ _ _ _ _ c.args.self.now c.args.face.0 c.self.invariant c.self.view_is c.requires in grind arith

pub start_of-requires : goal.start_of-requires
start_of-requires c =
    let here = labels_lie_at _ _ _ _ _ c.args.self.now c.args.face.0 c.self.invariant c.self.view_is c.requires in grind arith

pub overflow_sub-result : goal.overflow_sub-result
overflow_sub-result c =
    let here = labels_lie_at _ _ _ _ _ c.args.self.now c.args.face.0 c.self.invariant c.self.view_is c.requires in
    let end = get_or_read c.self.inside.ends.items c.args.face.0 c.index.result.now here.few c.index.ensures 0 in grind arith

pub overflow_cast-result : goal.overflow_cast-result
overflow_cast-result c =
    let here = labels_lie_at _ _ _ _ _ c.args.self.now c.args.face.0 c.self.invariant c.self.view_is c.requires in
    let end = get_or_read c.self.inside.ends.items c.args.face.0 c.index.result.now here.few c.index.ensures 0 in grind arith

pub returns : goal.returns
returns c =
    let here = labels_lie_at _ _ _ _ _ c.args.self.now c.args.face.0 c.self.invariant c.self.view_is c.requires in
    let end = get_or_read c.self.inside.ends.items c.args.face.0 c.index.result.now here.few c.index.ensures 0 in grind arith

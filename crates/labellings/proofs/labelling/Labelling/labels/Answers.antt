use Rattle.labellings.proofs.Common.{◌-◌, arith, get_or_read}
use Rattle.labellings.proofs.StoredLabellingLemmas.{labels_lie_at}
use Rattle.labellings.proofs.labelling.Labelling.labels.Goals as goal

pub index-end-requires : goal.index-end-requires
index-end-requires c =
    let here = labels_lie_at _ _ _ _ _ c.args.self.now c.args.face.0 c.self.invariant c.self.view_is c.requires in grind arith

pub start_of-requires : goal.start_of-requires
start_of-requires c =
    let here = labels_lie_at _ _ _ _ _ c.args.self.now c.args.face.0 c.self.invariant c.self.view_is c.requires in grind arith

pub part-requires-clause-rises : goal.part-requires-clause-rises
part-requires-clause-rises c =
    let here = labels_lie_at _ _ _ _ _ c.args.self.now c.args.face.0 c.self.invariant c.self.view_is c.requires in
    let end = get_or_read c.self.inside.ends.items c.args.face.0 c.index-end.result.now here.few c.index-end.ensures 0 in grind arith

pub part-requires-clause-within : goal.part-requires-clause-within
part-requires-clause-within c =
    let here = labels_lie_at _ _ _ _ _ c.args.self.now c.args.face.0 c.self.invariant c.self.view_is c.requires in
    let end = get_or_read c.self.inside.ends.items c.args.face.0 c.index-end.result.now here.few c.index-end.ensures 0 in grind arith

pub returns : goal.returns
returns c =
    let here = labels_lie_at _ _ _ _ _ c.args.self.now c.args.face.0 c.self.invariant c.self.view_is c.requires in
    let end = get_or_read c.self.inside.ends.items c.args.face.0 c.index-end.result.now here.few c.index-end.ensures 0 in grind arith

use Rattle.labellings.proofs.Common.{arith, sym, ◌∙◌, ap, false, get_or, get_or_read}
use Rattle.labellings.proofs.StoredLabellingLemmas.{labels_lie_at}
use Rattle.labellings.proofs.labelling.Labelling.flipped.Goals as goal

pub index-requires : goal.index-requires
index-requires c =
    let here = labels_lie_at _ _ _ _ _ c.args.self.now c.args.face.0 c.self.invariant c.self.view_is c.requires in grind arith

pub returns : goal.returns
returns c =
    let here = labels_lie_at _ _ _ _ _ c.args.self.now c.args.face.0 c.self.invariant c.self.view_is c.requires in
    get_or_read c.self.inside.signs.items c.args.face.0 c.index.result.now (omega (arith, here.few, here.each)) c.index.ensures false
    ∙ ap (λ signs. get_or signs c.args.face.0 false) (sym here.signs_are)

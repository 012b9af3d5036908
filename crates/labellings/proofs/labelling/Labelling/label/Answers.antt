use Rattle.labellings.proofs.Common.{◌≡◌, ◌+◌, ◌<◌, arith, get_or, length, sym, ap, ◌∙◌, ◌∷◌, get_or_read}
use Rattle.labellings.proofs.StoredLabellingLemmas.{labels_lie_at}
use Rattle.labellings.proofs.labelling.Labelling.label.Goals as goal

pub start_of-requires : goal.start_of-requires
start_of-requires c =
    let here = labels_lie_at _ _ _ _ _ c.args.self.now c.args.face.0 c.self.invariant c.self.view_is c.requires.face in grind arith

pub overflow_add-start_of : goal.overflow_add-start_of
overflow_add-start_of c =
    let here = labels_lie_at _ _ _ _ _ c.args.self.now c.args.face.0 c.self.invariant c.self.view_is c.requires.face in
    let start : c.start_of.result ≡ get_or (0 ∷ c.self.inside.ends.items) c.args.face.0 0 = grind arith in grind arith

pub index-requires : goal.index-requires
index-requires c =
    let here = labels_lie_at _ _ _ _ _ c.args.self.now c.args.face.0 c.self.invariant c.self.view_is c.requires.face in
    let start : c.start_of.result ≡ get_or (0 ∷ c.self.inside.ends.items) c.args.face.0 0 = grind arith in grind arith

pub returns : goal.returns
returns c =
    let labels = c.self.inside.labels.items in
    let here = labels_lie_at _ _ _ _ _ c.args.self.now c.args.face.0 c.self.invariant c.self.view_is c.requires.face in
    let start : c.start_of.result ≡ get_or (0 ∷ c.self.inside.ends.items) c.args.face.0 0 = grind arith in
    let below : c.start_of.result + c.args.corner < length labels =
    omega (arith, start, here.rises, here.within, here.size, c.requires.corner) in
    get_or_read labels (c.start_of.result + c.args.corner) c.index.result.now below c.index.ensures 0
    ∙ ap (λ k. get_or labels (k + c.args.corner) 0) start
    ∙ sym (here.label c.args.corner c.requires.corner)

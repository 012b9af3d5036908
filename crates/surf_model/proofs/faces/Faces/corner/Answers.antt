use Rattle.surf_model.proofs.Common.{◌+◌, ◌<◌, length, get_or, sym, ap, ◌∙◌, arith, get_or-map, numbers, VertexName}
use Rattle.surf_model.proofs.StoredLemmas.{lies_at}
use Rattle.surf_model.proofs.faces.Faces.corner.Goals as goal

-- The corner's place is within the face, and so within all corners.
pub start-requires : goal.start-requires
start-requires c = (lies_at _ _ _ c.args.self.now c.args.face.0 c.self.invariant c.self.view_is c.requires.face).few

pub overflow_add-start : goal.overflow_add-start
overflow_add-start c =
    let here = lies_at _ _ _ c.args.self.now c.args.face.0 c.self.invariant c.self.view_is c.requires.face in grind arith

pub index-requires : goal.index-requires
index-requires c =
    let here = lies_at _ _ _ c.args.self.now c.args.face.0 c.self.invariant c.self.view_is c.requires.face in grind arith

pub returns : goal.returns
returns c =
    let corners = c.self.inside.corners.items in
    let here = lies_at _ _ _ c.args.self.now c.args.face.0 c.self.invariant c.self.view_is c.requires.face in
    let below : c.start.result + c.args.t < length corners = grind arith in
    ap (λ (v : VertexName). v.0) c.index.ensures
    ∙ sym (get_or-map (λ (v : VertexName). v.0) corners (c.start.result + c.args.t) c.index.result.now 0 below)
    ∙ ap (λ k. get_or (numbers corners) (k + c.args.t) 0) c.start.ensures
    ∙ sym (here.corner c.args.t c.requires.corner)

use Rattle.surf_model.proofs.Common.{◌≡◌, ◌+◌, ◌<◌, ◌∷◌, length, get_or, sym, ap, ◌∙◌, arith, get_or-map, numbers, VertexName}
use Rattle.surf_model.proofs.StoredLemmas.{lies_at, total_sides-seen}
use Rattle.surf_model.proofs.faces.Faces.corner_at.Goals as goal

-- There are as many corners as sides.
pub index-requires : goal.index-requires
index-requires c = omega (arith, c.requires, total_sides-seen _ _ _ c.args.self.now c.self.invariant c.self.view_is)

pub returns : goal.returns
returns c = λ side h n.
    let corners = c.self.inside.corners.items in
    let here = lies_at _ _ _ c.args.self.now side.face.0 c.self.invariant c.self.view_is h.face in
    let below : c.args.dart.0 < length corners = grind (arith, total_sides-seen) in
    let place : c.args.dart.0 ≡ get_or (0 ∷ c.self.inside.parts) side.face.0 0 + side.at = omega (arith, n, here.first) in
    ap (λ (v : VertexName). v.0) c.index.ensures
    ∙ sym (get_or-map (λ (v : VertexName). v.0) corners c.args.dart.0 c.index.result.now 0 below)
    ∙ ap (λ k. get_or (numbers corners) k 0) place
    ∙ sym (here.corner side.at h.place)

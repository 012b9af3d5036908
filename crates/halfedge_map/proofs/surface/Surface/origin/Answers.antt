use Rattle.halfedge_map.proofs.Common.{darts_of, origin_of, OrientedMesh, arith, ◌≡◌, ◌<◌, ℕ, false, sym, subst, is_flipped}
use Rattle.halfedge_map.proofs.StoringLemmas.{listed_origin}
use Rattle.halfedge_map.proofs.surface.Surface.origin.Goals as goal

pub returns-in-AsListed : goal.returns-in-AsListed
returns-in-AsListed c =
    let i = c.self.inside in
    let s : OrientedMesh = record { mesh = i.faces; table = i.sides; signs = i.signs } in
    let l : c.args.dart.0 < darts_of s = subst (λ (t : OrientedMesh). c.args.dart.0 < darts_of t) (sym c.self.view_is) c.requires in
    let kept : (face : ℕ) → is_flipped s.signs face ≡ false = grind arith in
    subst (λ (t : OrientedMesh). c.corner_at.result.0 ≡ origin_of t c.args.dart.0) c.self.view_is
    (listed_origin s c.args.dart.0 c.corner_at.result.0 kept l c.corner_at.ensures)

use Rattle.halfedge_map.proofs.Common.{darts_of, twin_of, OrientedMesh, IsOrientedSurface, arith, ◌≡◌, ◌<◌, ℕ, sym, subst}
use Rattle.halfedge_map.proofs.TwinLemmas.{twin_within}
use Rattle.halfedge_map.proofs.EdgeLemmas.{next_is_twin}
use Rattle.halfedge_map.proofs.surface.Surface.twin.Goals as goal

pub other-requires : goal.other-requires
other-requires c = grind arith

pub returns-clause-twin : goal.returns-clause-twin
returns-clause-twin c =
    let i = c.self.inside in
    let s : OrientedMesh = record { mesh = i.faces; table = i.sides; signs = i.signs } in
    let l : c.args.dart.0 < darts_of s = subst (λ (t : OrientedMesh). c.args.dart.0 < darts_of t) (sym c.self.view_is) c.requires in
    subst (λ (t : OrientedMesh). c.other.result.0 ≡ twin_of t c.args.dart.0) c.self.view_is
    (next_is_twin s c.self.invariant.oriented c.args.dart.0 c.other.result.0 l (c.other.ensures i.faces c.self.invariant.oriented.table))

pub returns-clause-within : goal.returns-clause-within
returns-clause-within c =
    let s : OrientedMesh = c.args.self.now in
    let h : IsOrientedSurface s = subst IsOrientedSurface c.self.view_is c.self.invariant.oriented in
    subst (λ (n : ℕ). n < darts_of s) (sym (returns-clause-twin c)) (twin_within s h c.args.dart.0 c.requires)

use Rattle.halfedge_map.proofs.Common.{edge_of, OrientedMesh, arith, ◌≡◌, subst}
use Rattle.halfedge_map.proofs.EdgeLemmas.{dart_kept}
use Rattle.halfedge_map.proofs.surface.Surface.edge_of.Goals as goal

pub edge_of-requires : goal.edge_of-requires
edge_of-requires c = grind arith

pub returns-clause-edge : goal.returns-clause-edge
returns-clause-edge c =
    let i = c.self.inside in
    let s : OrientedMesh = record { mesh = i.faces; table = i.sides; signs = i.signs } in
    subst (λ (t : OrientedMesh). c.edge_of.result.0 ≡ edge_of t c.args.dart.0) c.self.view_is
    (dart_kept s c.self.invariant.oriented c.edge_of.result.0 c.args.dart.0 c.edge_of.ensures.found
    (c.edge_of.ensures.dart i.faces c.self.invariant.oriented.table))

use Rattle.halfedge_map.proofs.Common.{edge_of, OrientedMesh, ◌≡◌, ◌<◌, length, sym, ap, ◌∙◌, subst}
use Rattle.halfedge_map.proofs.EdgeLemmas.{IsSideInTable, side_got}
use Rattle.halfedge_map.proofs.surface.Surface.dart_of.Goals as goal

pub dart-requires : goal.dart-requires
dart-requires c =
    let i = c.self.inside in
    let s : OrientedMesh = record { mesh = i.faces; table = i.sides; signs = i.signs } in
    let l : c.args.edge.0 < length s.table = subst (λ (t : OrientedMesh). c.args.edge.0 < length t.table) (sym c.self.view_is) c.requires in
    (side_got s c.self.invariant.oriented c.args.edge.0 0 c.side.result l c.side.ensures).in_mesh

pub returns-clause-edge : goal.returns-clause-edge
returns-clause-edge c =
    let i = c.self.inside in
    let s : OrientedMesh = record { mesh = i.faces; table = i.sides; signs = i.signs } in
    let l : c.args.edge.0 < length s.table = subst (λ (t : OrientedMesh). c.args.edge.0 < length t.table) (sym c.self.view_is) c.requires in
    let here : IsSideInTable s c.args.edge.0 c.side.result =
    side_got s c.self.invariant.oriented c.args.edge.0 0 c.side.result l c.side.ensures in
    subst (λ (t : OrientedMesh). edge_of t c.dart.result.0 ≡ c.args.edge.0) c.self.view_is
    (ap (edge_of s) c.dart.ensures.number ∙ sym here.edge)

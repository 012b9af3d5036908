use Rattle.halfedge_map.proofs.Common.{origin_of, OrientedMesh, IsOrientedSurface, rotations_of, IsDartFrom, arith, ◌≢◌, sym, ◌∙◌, subst, eqb-true, HasEnds, edge_in}
use Rattle.halfedge_map.proofs.EdgeLemmas.{IsAtEdge, leads_on, leads_back}
use Rattle.halfedge_map.proofs.surface.Surface.dart_between.Goals as goal
use Rattle.halfedge_map.proofs.surface.Surface.dart_between.Goals.{After-dart_of-dart}

oriented : (c : After-dart_of-dart) → IsOrientedSurface c.args.self.now
oriented c = subst IsOrientedSurface c.self.view_is c.self.invariant.oriented

-- the dart that was read is one of the edge that was found
at_edge : (c : After-dart_of-dart) → IsAtEdge c.args.self.now c.dart_of-dart.result.0 c.in_ok-edge.edge.0
at_edge c = grind arith

ends : (c : After-dart_of-dart) → HasEnds c.args.u.0 c.args.v.0 (edge_in c.args.self.now.table c.in_ok-edge.edge.0)
ends c = grind arith

pub returns-then-eq-clause-leads : goal.returns-then-eq-clause-leads
returns-then-eq-clause-leads c =
    let at = (goal.at.returns-then-eq-clause-leads c).After-dart_of-dart in
    leads_on c.args.self.now (oriented at) c.args.u.0 c.args.v.0 _ _ (at_edge at) (ends at)
    (sym c.origin.ensures ∙ eqb-true c.origin.result.0 c.args.u.0 (sym c.eq.ensures ∙ c.if-eq.true))

pub returns-else-eq-clause-leads : goal.returns-else-eq-clause-leads
returns-else-eq-clause-leads c =
    let s : OrientedMesh = c.args.self.now in
    let at = (goal.at.returns-else-eq-clause-leads c).After-dart_of-dart in
    let other : origin_of s c.dart_of-dart.result.0 ≢ c.args.u.0 = λ same. grind arith in
    subst (IsDartFrom (rotations_of s) c.args.u.0 c.args.v.0) (sym c.twin.ensures.twin)
    (leads_back s (oriented at) c.args.u.0 c.args.v.0 _ _ (at_edge at) (ends at) other)

use Rattle.compact_surfaces.proofs.Common.{FreelyHomotopic, IsClosedWalk, first_faces, mesh_of_manifold, ◌≡◌, ◌↔◌, subst, sym, FaceList, IsOrientable}
use Rattle.free_loops.specs.declared.deciding.FreeAnswer.TheVariants.{Freely}
use Rattle.compact_surfaces.proofs.ClassLemmas.{closed_stays, free_on_mesh}
use Rattle.compact_surfaces.proofs.surface.CompactSurface.decide_free.Goals as goal

pub decide_free-requires-clause-signs : goal.decide_free-requires-clause-signs
decide_free-requires-clause-signs c = c.self.invariant.signs.1 (subst IsOrientable (sym c.self.view_is) c.requires.orientable)

pub decide_free-requires-clause-first : goal.decide_free-requires-clause-first
decide_free-requires-clause-first c =
    let closed : FaceList = mesh_of_manifold c.self.inside.closed in
    closed_stays (first_faces c.self.inside.vertices c.self.inside.faces closed) closed c.self.invariant.valid c.self.invariant.answers
    c.args.first.now (subst (λ (m : FaceList). IsClosedWalk m c.args.first.now) (sym c.self.view_is) c.requires.first)

pub decide_free-requires-clause-second : goal.decide_free-requires-clause-second
decide_free-requires-clause-second c =
    let closed : FaceList = mesh_of_manifold c.self.inside.closed in
    closed_stays (first_faces c.self.inside.vertices c.self.inside.faces closed) closed c.self.invariant.valid c.self.invariant.answers
    c.args.second.now (subst (λ (m : FaceList). IsClosedWalk m c.args.second.now) (sym c.self.view_is) c.requires.second)

pub returns-clause-answer : goal.returns-clause-answer
returns-clause-answer c =
    let closed : FaceList = mesh_of_manifold c.self.inside.closed in
    let mesh : FaceList = first_faces c.self.inside.vertices c.self.inside.faces closed in
    let same : FreelyHomotopic closed c.args.first.now c.args.second.now ↔ FreelyHomotopic mesh c.args.first.now c.args.second.now =
    free_on_mesh mesh closed c.self.invariant.valid c.self.invariant.answers c.args.first.now c.args.second.now
    (subst (λ (m : FaceList). IsClosedWalk m c.args.first.now) (sym c.self.view_is) c.requires.first)
    (subst (λ (m : FaceList). IsClosedWalk m c.args.second.now) (sym c.self.view_is) c.requires.second) in
    subst (λ (m : FaceList). (c.in_ok-answer.answer ≡ Freely) ↔ FreelyHomotopic m c.args.first.now c.args.second.now) c.self.view_is
    ((λ e. same.0 (c.in_ok-answer.ensures.answer.0 e)), (λ h. c.in_ok-answer.ensures.answer.1 (same.1 h)))

use Rattle.compact_surfaces.proofs.FoundLemmas.{found_on_mesh, walk_lies_below}
use Rattle.compact_surfaces.proofs.surface.CompactSurface.answer_if_pair.Goals as goal
use Rattle.compact_surfaces.proofs.surface.CompactSurface.answer_if_pair.Goals.{then-not-lies_below-via-then-not-lies_below, then-not-lies_below-via-else-not-lies_below+then-not-lies_below-2}
use Rattle.compact_surfaces.proofs.Common.{first_faces, has_signs, mesh_of_manifold, subst, both_ways, FaceList, AreWalkPair, IsFoundOn}

pub returns-then-not-lies_below-clause-answer : goal.returns-then-not-lies_below-clause-answer
returns-then-not-lies_below-clause-answer c =
    let closed : FaceList = mesh_of_manifold c.self.inside.closed in
    let mesh : FaceList = first_faces c.self.inside.vertices c.self.inside.faces closed in
    subst (λ (m : FaceList). AreWalkPair m c.args.first.now c.args.second.now → ⊥) c.self.view_is
    (λ are. elim c.then-not-lies_below.branch [
      | then-not-lies_below-via-then-not-lies_below w ↦
          both_ways c.lies_below.result w.if-not-lies_below.true
          (c.lies_below.ensures.1 (walk_lies_below mesh c.args.first.now c.self.invariant.valid are.first_walk))
      | then-not-lies_below-via-else-not-lies_below+then-not-lies_below-2 w ↦
          both_ways w.lies_below-else-not-lies_below.result w.if-not-lies_below-2.true
          (w.lies_below-else-not-lies_below.ensures.1 (walk_lies_below mesh c.args.second.now c.self.invariant.valid are.second_walk))
    ])

pub returns-clause-answer : goal.returns-clause-answer
returns-clause-answer c =
    let closed : FaceList = mesh_of_manifold c.self.inside.closed in
    let mesh : FaceList = first_faces c.self.inside.vertices c.self.inside.faces closed in
    subst (λ (m : FaceList). IsFoundOn m c.args.first.now c.args.second.now c.in_ok-found.found) c.self.view_is
    (found_on_mesh mesh closed c.self.inside.own (has_signs c.self.inside.closed) c.args.first.now c.args.second.now
    c.in_ok-found.found c.self.invariant
    (c.lies_below.ensures.0 c.if-not-lies_below.false)
    (c.lies_below-else-not-lies_below.ensures.0 c.if-not-lies_below-2.false) c.in_ok-found.ensures.answer)

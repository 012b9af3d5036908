use Rattle.compact_surfaces.proofs.Common.{first_faces, mesh_of_manifold, ◌≡◌, subst, arith, length, take_all, err_from_is_err_and, FaceList, IsClassFault, AreClasses, NoWalk}
use Rattle.compact_surfaces.proofs.ClassLemmas.{classes_on_mesh, fault_on_mesh, next_is_none}
use Rattle.compact_surfaces.proofs.surface.CompactSurface.classes.Goals as goal

pub returns-in_err-numbers-clause-fault : goal.returns-in_err-numbers-clause-fault
returns-in_err-numbers-clause-fault c =
    let closed : FaceList = mesh_of_manifold c.self.inside.closed in
    let p = err_from_is_err_and c.from_residual.result c.from_residual.ensures.1 in
    rw (p.1, p.2)
    (subst (λ (m : FaceList). IsClassFault m c.args.walks.now c.in_err-numbers.field-0.0) c.self.view_is
    (fault_on_mesh (first_faces c.self.inside.vertices c.self.inside.faces closed) closed c.self.invariant.valid c.self.invariant.answers
    c.args.walks.now c.count_below-below.result c.in_err-numbers.field-0.0 c.count_below-below.ensures.within
    c.count_below-below.ensures.below c.in_err-numbers.ensures.fault))

pub returns-then-below-walks-clause-fault : goal.returns-then-below-walks-clause-fault
returns-then-below-walks-clause-fault c =
    let closed : FaceList = mesh_of_manifold c.self.inside.closed in
    subst (λ (m : FaceList). IsClassFault m c.args.walks.now (NoWalk c.count_below-below.result)) c.self.view_is
    (next_is_none (first_faces c.self.inside.vertices c.self.inside.faces closed) closed c.self.invariant.valid c.self.invariant.answers
    c.args.walks.now c.count_below-below.result c.in_ok-numbers.numbers.items (omega arith) c.count_below-below.ensures.below
    (c.count_below-below.ensures.not_next (omega arith)) c.in_ok-numbers.ensures.classes)

pub returns-clause-classes : goal.returns-clause-classes
returns-clause-classes c =
    let closed : FaceList = mesh_of_manifold c.self.inside.closed in
    let all : c.count_below-below.result ≡ length c.args.walks.now = omega (arith, c.count_below-below.ensures.within) in
    subst (λ (m : FaceList). AreClasses m c.args.walks.now c.in_ok-numbers.numbers.items) c.self.view_is
    (classes_on_mesh (first_faces c.self.inside.vertices c.self.inside.faces closed) closed c.self.invariant.valid c.self.invariant.answers
    c.args.walks.now c.in_ok-numbers.numbers.items (λ i l. c.count_below-below.ensures.below i (omega (arith, l, all)))
    (rw (take_all c.count_below-below.result c.args.walks.now (omega (arith, all))) at c.in_ok-numbers.ensures.classes))

use Rattle.component_deciding.proofs.Common.{names_within, sym, subst, arith, EachTwoAreJoined, FaceList, IsClosedManifold, IsCoherent}
use Rattle.component_deciding.proofs.OwnSurfaces.{own_closed, own_joined, own_coherent}
use Rattle.component_deciding.proofs.own_mesh.own_surface.Goals as goal

pub signs-requires-clause-signs : goal.signs-requires-clause-signs
signs-requires-clause-signs c = λ t d l.
    let within = names_within c.args.apart.now.mesh.faces c.args.apart.now.parts c.args.place c.requires.apart.parts
    c.requires.place t d l in
    omega (arith, within, c.requires.apart.signed.coherent.each_face)

pub build-requires-2-clause-closed : goal.build-requires-2-clause-closed
build-requires-2-clause-closed c =
    subst IsClosedManifold (sym c.in_ok-faces.ensures)
    (own_closed c.args.apart.now.mesh.faces c.args.apart.now.parts c.args.apart.now.own c.args.place
    (record { parts_are = c.requires.apart.parts; numbers_are = c.requires.apart.own; within = c.requires.place })
    c.requires.apart.signed.manifold)

pub build-requires-2-clause-connected : goal.build-requires-2-clause-connected
build-requires-2-clause-connected c =
    subst EachTwoAreJoined (sym c.in_ok-faces.ensures)
    (own_joined c.args.apart.now.mesh.faces c.args.apart.now.parts c.args.apart.now.own c.args.place
    (record { parts_are = c.requires.apart.parts; numbers_are = c.requires.apart.own; within = c.requires.place })
    c.requires.apart.signed.manifold)

pub build-requires-2-clause-coherent : goal.build-requires-2-clause-coherent
build-requires-2-clause-coherent c =
    subst (λ (m : FaceList). IsCoherent m c.in_ok-signs.signs) (sym c.in_ok-faces.ensures)
    (rw c.in_ok-signs.ensures (own_coherent c.args.apart.now.mesh.faces c.args.apart.now.parts c.args.apart.now.own
    c.args.apart.now.mesh.signs c.args.place
    (record { parts_are = c.requires.apart.parts; numbers_are = c.requires.apart.own; within = c.requires.place })
    c.requires.apart.signed.coherent))

use Rattle.closed_surfaces.proofs.Common.{IsOfComponent, piece_of_parts, closed_alone, names_within, coherent_alone, sym, subst, arith, component_at, component_mesh, EachTwoAreJoined, FaceList, signs_among, IsClosedManifold, IsCoherent}
use Rattle.closed_surfaces.proofs.component.surface_alone.Goals as goal

pub signs-requires-clause-signs : goal.signs-requires-clause-signs
signs-requires-clause-signs c =
    λ k d l. omega (
      arith,
      names_within c.args.mesh.now.faces c.args.parts.now c.args.place c.requires.parts c.requires.place k d l,
      c.requires.signed.coherent.each_face,
    )

pub build-requires-2-clause-closed : goal.build-requires-2-clause-closed
build-requires-2-clause-closed c =
    let alone = closed_alone c.args.mesh.now.faces c.args.parts.now c.args.place c.requires.parts c.requires.place
    c.requires.signed.manifold in
    subst IsClosedManifold (sym c.in_ok-faces.ensures)
    (record { some_face = alone.some_face; two_sides = alone.two_sides; one_ring = alone.one_ring })

pub build-requires-2-clause-connected : goal.build-requires-2-clause-connected
build-requires-2-clause-connected c =
    let alone = closed_alone c.args.mesh.now.faces c.args.parts.now c.args.place c.requires.parts c.requires.place
    c.requires.signed.manifold in
    subst EachTwoAreJoined (sym c.in_ok-faces.ensures) alone.connected

pub build-requires-2-clause-coherent : goal.build-requires-2-clause-coherent
build-requires-2-clause-coherent c =
    let mesh = c.args.mesh.now.faces in
    let parts = c.args.parts.now in
    let names = component_at parts c.args.place in
    let here : IsCoherent (component_mesh mesh parts c.args.place) (signs_among c.args.mesh.now.signs names) =
    coherent_alone mesh (IsOfComponent parts.places c.args.place) names c.args.mesh.now.signs
    (piece_of_parts mesh parts c.args.place c.requires.parts c.requires.place) c.requires.signed.coherent in
    subst (λ (m : FaceList). IsCoherent m c.in_ok-signs.signs) (sym c.in_ok-faces.ensures)
    (subst (IsCoherent (component_mesh mesh parts c.args.place)) (sym c.in_ok-signs.ensures) here)

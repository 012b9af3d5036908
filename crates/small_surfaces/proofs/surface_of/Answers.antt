use Rattle.std.proofs.Common.{◌≡◌, inr, length, sym, subst, arith}
use Rattle.surf_model.specs.FaceLists.{IsFaceList}
use Rattle.surf_model.specs.StoredFaces.{stored_mesh}
use Rattle.surf_model.specs.Components.{EachTwoAreJoined}
use Rattle.surf_model.specs.Surfaces.{IsOrientable}
use Rattle.manifold_check.proofs.PartPieces.{joined_one}
use Rattle.small_surfaces.proofs.surface_of.Goals as goal

-- A connected mesh has one component.
pub returns-then-len-ne1-clause-fault : goal.returns-then-len-ne1-clause-fault
returns-then-len-ne1-clause-fault c =
    inr (λ is.
    let stored : stored_mesh c.faces.inside.count c.faces.inside.parts c.faces.inside.corners.items ≡ c.in-Ok.faces = cc c.faces.view_is in
    let valid : IsFaceList c.in-Ok.faces = subst IsFaceList stored c.faces.invariant.mesh in
    let joined : EachTwoAreJoined c.in-Ok.faces = subst EachTwoAreJoined (sym c.in-Ok.ensures.mesh) is.surface.closed.connected in
    let one : length c.in_ok-build.field-0.components ≡ 1 =
    joined_one c.in-Ok.faces c.in_ok-build.field-0 valid c.in_ok-build.ensures c.in-Ok-check_closed.ensures.closed.some_face joined in
    omega (arith, one, c.len-2.ensures, c.if-len-ne1.true))

pub returns-in-Err-NotOrientable-clause-fault : goal.returns-in-Err-NotOrientable-clause-fault
returns-in-Err-NotOrientable-clause-fault c =
    inr (λ is.
    c.orient.ensures.not_orientable c.in-Err-NotOrientable.field-0-0 (cc (c.in-Err-NotOrientable.is, c.in-Err-NotOrientable.field-0-is))
    (subst IsOrientable (sym c.in-Ok.ensures.mesh) is.surface.orientable))

use Rattle.homotopy_arrays.proofs.Common.{mesh_in_arrays, ◌≡◌, inl, inr, err_from_is_err_and, Ok}
use Rattle.homotopy_arrays.proofs.EndLemmas.{none_ends}
use Rattle.homotopy_arrays.proofs.surface.surface_of_arrays.Goals as goal

pub returns-in_err-of : goal.returns-in_err-of
returns-in_err-of c =
    let p = err_from_is_err_and c.from_residual-in_err-of.result c.from_residual-in_err-of.ensures.1 in
    let was : Ok c.in_ok-faces.faces ≡ mesh_in_arrays c.args.mesh =
    elim c.in_ok-faces.ensures [ inl h ↦ h | inr wrong ↦ absurd (cc wrong) ] in
    rw p.1 (none_ends (mesh_in_arrays c.args.mesh) c.in_ok-faces.faces c.in_err-of.field-0.0 p.0 was c.in_err-of.ensures.none p.2)

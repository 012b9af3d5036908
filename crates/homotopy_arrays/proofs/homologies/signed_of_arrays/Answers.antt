use Rattle.homotopy_arrays.proofs.Common.{mesh_in_arrays, ◌≡◌, inl, inr, sym, err_from_is_err_and, Ok}
use Rattle.homotopy_arrays.proofs.HomologyLemmas.{signed_ends}
use Rattle.homotopy_arrays.proofs.homologies.signed_of_arrays.Goals as goal

pub returns-in_err-of : goal.returns-in_err-of
returns-in_err-of c =
    let p = err_from_is_err_and c.from_residual-in_err-of.result c.from_residual-in_err-of.ensures.1 in
    let was : Ok c.in_ok-faces.faces ≡ mesh_in_arrays c.args.mesh =
    elim c.in_ok-faces.ensures [ inl h ↦ h | inr wrong ↦ absurd (cc wrong) ] in
    rw p.1 (signed_ends (mesh_in_arrays c.args.mesh) c.in_ok-faces.faces c.in_err-of.field-0.0 p.0 was c.in_err-of.ensures.fault p.2)

pub returns : goal.returns
returns c =
    let was : Ok c.in_ok-faces.faces ≡ mesh_in_arrays c.args.mesh =
    elim c.in_ok-faces.ensures [ inl h ↦ h | inr wrong ↦ absurd (cc wrong) ] in
    record {
      mesh = c.in_ok-faces.faces;
      is = sym was;
      holds = record { compact = c.in_ok-of.ensures.surface; signed = c.in_ok-of.ensures.signed };
    }

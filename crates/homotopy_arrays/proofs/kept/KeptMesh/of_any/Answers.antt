use Rattle.homotopy_arrays.proofs.Common.{mesh_in_arrays, ◌≡◌, inl, inr, sym, err_from_is_err_and, Ok}
use Rattle.homotopy_arrays.proofs.EndLemmas.{compact_ends}
use Rattle.homotopy_arrays.proofs.kept.KeptMesh.of_any.Goals as goal

pub returns-in_err-surface : goal.returns-in_err-surface
returns-in_err-surface c =
    let p = err_from_is_err_and c.from_residual-in_err-surface.result c.from_residual-in_err-surface.ensures.1 in
    let was : Ok c.in_ok-faces.faces ≡ mesh_in_arrays c.args.mesh =
    elim c.in_ok-faces.ensures [ inl h ↦ h | inr wrong ↦ absurd (cc wrong) ] in
    rw p.1 (compact_ends (mesh_in_arrays c.args.mesh) c.in_ok-faces.faces c.in_err-surface.field-0.0 p.0 was c.in_err-surface.ensures.fault
    p.2)

pub returns : goal.returns
returns c =
    let was : Ok c.in_ok-faces.faces ≡ mesh_in_arrays c.args.mesh =
    elim c.in_ok-faces.ensures [ inl h ↦ h | inr wrong ↦ absurd (cc wrong) ] in
    record {
      mesh = c.in_ok-faces.faces;
      is = sym was;
      holds = record { surface = c.in_ok-surface.ensures.compact; same = c.in_ok-surface.ensures.mesh };
    }

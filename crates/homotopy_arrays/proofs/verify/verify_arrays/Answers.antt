use Rattle.homotopy_arrays.proofs.Common.{mesh_in_arrays, err_from_is_err_and}
use Rattle.homotopy_arrays.proofs.JudgementLemmas.{mesh_read, no_mesh, on_mesh}
use Rattle.homotopy_arrays.proofs.verify.verify_arrays.Goals as goal

pub returns-in_err-faces : goal.returns-in_err-faces
returns-in_err-faces c =
    let p = err_from_is_err_and c.from_residual.result c.from_residual.ensures.1 in
    rw p.1
    (no_mesh (mesh_in_arrays c.args.mesh) c.args.first.now c.args.second.now c.args.certificate.now
    c.in_err-faces.field-0.0 p.0 c.in_err-faces.ensures p.2)

pub returns : goal.returns
returns c =
    let read = mesh_in_arrays c.args.mesh in
    on_mesh read c.in_ok-faces.faces c.args.first.now c.args.second.now c.args.certificate.now c.verify_on-judged.result
    (mesh_read read c.in_ok-faces.faces c.in_ok-faces.ensures) c.verify_on-judged.ensures

use Rattle.homotopy_arrays.proofs.Common.{mesh_in_arrays, err_from_is_err_and}
use Rattle.homotopy_arrays.proofs.CertificationLemmas.{no_surface, on_surface}
use Rattle.homotopy_arrays.proofs.certify.certify_arrays.Goals as goal

pub returns-in_err-surface : goal.returns-in_err-surface
returns-in_err-surface c =
    let p = err_from_is_err_and c.from_residual.result c.from_residual.ensures.1 in
    rw p.1
    (no_surface (mesh_in_arrays c.args.mesh) c.args.first.now c.args.second.now
    c.in_err-surface.field-0.0 p.0 c.in_err-surface.ensures p.2)

pub returns : goal.returns
returns c =
    on_surface (mesh_in_arrays c.args.mesh) c.in_ok-surface.surface c.args.first.now c.args.second.now
    c.certify_on.result c.in_ok-surface.ensures c.certify_on.ensures

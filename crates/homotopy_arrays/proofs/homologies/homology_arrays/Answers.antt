use Rattle.homotopy_arrays.proofs.Common.{signed_surface, AreSmall, mesh_in_arrays, IsSurfaceFault, err_from_is_err_and, IsOrientableSurface}
use Rattle.homotopy_arrays.proofs.HomologyLemmas.{shown_on_none, shown_on_surface, surface_read}
use Rattle.homotopy_arrays.proofs.homologies.homology_arrays.Goals as goal

pub returns-in_err-surface : goal.returns-in_err-surface
returns-in_err-surface c =
    let p = err_from_is_err_and c.from_residual.result c.from_residual.ensures.1 in
    rw p.1
    (shown_on_none IsOrientableSurface IsSurfaceFault (mesh_in_arrays c.args.mesh) c.args.first.now c.args.second.now
    c.in_err-surface.field-0.0 p.0 c.in_err-surface.ensures p.2)

pub show_on-requires : goal.show_on-requires
show_on-requires c = c.in_ok-surface.ensures.holds.signed

pub returns : goal.returns
returns c =
    let of = c.in_ok-surface.ensures in
    shown_on_surface IsOrientableSurface IsSurfaceFault AreSmall (mesh_in_arrays c.args.mesh) c.in_ok-surface.surface.faces c.args.first.now
    c.args.second.now c.show_on.result (surface_read (mesh_in_arrays c.args.mesh) c.in_ok-surface.surface of)
    (signed_surface c.in_ok-surface.surface of.holds.signed) c.show_on.ensures

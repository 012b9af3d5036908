use Rattle.homotopy_arrays.proofs.Common.{IsOrientableCompactSurface, AreFolded, IsOrientableCompactFault, IsHomologyFaultOfPair, mesh_asked, mesh_in_arrays, err_from_is_err_and}
use Rattle.homotopy_arrays.proofs.HomologyLemmas.{is_asked, shown_on_none, shown_on_surface, shown_sized, signed_read}
use Rattle.homotopy_arrays.proofs.homologies.homology_any_arrays.Goals as goal

pub returns-in_err-surface : goal.returns-in_err-surface
returns-in_err-surface c =
    let p = err_from_is_err_and c.from_residual.result c.from_residual.ensures.1 in
    rw p.1
    (shown_on_none IsOrientableCompactSurface IsOrientableCompactFault (mesh_in_arrays c.args.mesh) c.args.first.now c.args.second.now
    c.in_err-surface.field-0.0 p.0 c.in_err-surface.ensures p.2)

pub show_on-requires : goal.show_on-requires
show_on-requires c = let of = c.in_ok-surface.ensures in is_asked of.mesh c.in_ok-surface.surface of.holds.signed

pub returns : goal.returns
returns c =
    let surface = c.in_ok-surface.surface in
    let first = c.args.first.now in
    let second = c.args.second.now in
    let read = signed_read (mesh_in_arrays c.args.mesh) surface c.in_ok-surface.ensures in
    shown_on_surface IsOrientableCompactSurface IsOrientableCompactFault AreFolded (mesh_in_arrays c.args.mesh) (mesh_asked surface) first
    second
    c.show_on.result read.0 read.1
    (shown_sized surface (mesh_asked surface) first second c.show_on.result (IsHomologyFaultOfPair (mesh_asked surface) first second)
    c.show_on.ensures)

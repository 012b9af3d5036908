use Rattle.cover_commands.proofs.Common.{first_fault_stops, tells_no_fault, refl, closed_alone}
use Rattle.surface_commands.specs.SurfaceRefusals.{surface_line}
use Rattle.cover_commands.proofs.reading.check_manifold.Goals as goal

pub returns-in-Err-clause-end : goal.returns-in-Err-clause-end
returns-in-Err-clause-end c =
    first_fault_stops surface_line (closed_alone c.args.faces.now) c.stop_for.result c.in-Err.ensures.fault refl
    (λ is. (c.in-Err.fault, is, refl)) c.stop_for.ensures

pub returns-in-Err-clause-no_fault : goal.returns-in-Err-clause-no_fault
returns-in-Err-clause-no_fault c = λ e. tells_no_fault (surface_line c.in-Err.fault) c.stop_for.result c.stop_for.ensures cc

use Rattle.open_commands.proofs.Common.{first_fault_stops, tells_no_fault, open_line, open_surface, refl}
use Rattle.open_commands.proofs.open_input.check_surface.Goals as goal

pub returns-in-Err : goal.returns-in-Err
returns-in-Err c =
    record {
      end = first_fault_stops open_line (open_surface c.args.faces.now) c.refused_for.result c.in-Err.ensures.fault refl
          (λ is. (c.in-Err.fault, is, refl)) c.refused_for.ensures;
      no_fault = λ e. tells_no_fault (open_line c.in-Err.fault) c.refused_for.result c.refused_for.ensures cc;
    }

use Rattle.std.proofs.Common.{inr, refl, subst}
use Rattle.surf_model.specs.FaceLists.{HasFileSize}
use Rattle.commands.proofs.Checking.{first_fault_stops, stops_next}
use Rattle.commands.proofs.Running.{tells_no_fault}
use Rattle.double_commands.specs.MeshDouble.{double_line, doubled}
use Rattle.open_commands.specs.OpenInput.{open_surface}
use Rattle.double_commands.proofs.reading.double_checked.Goals as goal

pub returns-in-Ok : goal.returns-in-Ok
returns-in-Ok c =
    record {
      end = inr (
        c.args.faces.now,
        c.in_ok-check_surface.ensures.end,
        (subst HasFileSize c.in-Ok.ensures.double c.len.ensures.small, c.in-Ok.ensures.double),
      );
      no_fault = λ e. cc;
    }

pub returns-in-Err : goal.returns-in-Err
returns-in-Err c =
    record {
      end =
          stops_next (open_surface c.args.faces.now) doubled c.args.faces.now c.refused_for.result c.in_ok-check_surface.ensures.end
          (first_fault_stops double_line (doubled c.args.faces.now) c.refused_for.result c.in-Err.ensures.fault refl
          (λ is. (c.in-Err.fault, is, refl)) c.refused_for.ensures);
      no_fault = λ e. tells_no_fault (double_line c.in-Err.fault) c.refused_for.result c.refused_for.ensures cc;
    }

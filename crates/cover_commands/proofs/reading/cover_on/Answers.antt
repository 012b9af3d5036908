use Rattle.cover_commands.proofs.Common.{first_fault_stops, tells_no_fault, cover_line, covered, seen, refl, subst, HasFileSize}
use Rattle.cover_commands.proofs.reading.cover_on.Goals as goal

pub returns-in-Ok : goal.returns-in-Ok
returns-in-Ok c =
    record {
      end = (subst HasFileSize c.in-Ok.ensures.cover c.len.ensures.small, c.in-Ok.ensures.cover);
      no_fault = λ e. cc;
    }

pub returns-in-Err : goal.returns-in-Err
returns-in-Err c =
    record {
      end = first_fault_stops cover_line (covered (seen c.args.on.now)) c.refused_as.result c.in-Err.ensures.fault refl
          (λ is. (c.in-Err.fault, is, refl)) c.refused_as.ensures;
      no_fault = λ e. tells_no_fault (cover_line c.in-Err.fault) c.refused_as.result c.refused_as.ensures cc;
    }

use Rattle.verify_homology_commands.proofs.Common.{read_passes, read_stops, tells_no_fault, cert_of_text, refl, fault_line}
use Rattle.homology_files.specs.declared.fault.HomologyFault.TheVariants.{OutOfMemory}
use Rattle.verify_homology_commands.proofs.verify_homology.certificate_of_bytes.Goals as goal

pub returns-in-Ok : goal.returns-in-Ok
returns-in-Ok c =
    record {
      end = read_passes fault_line (cert_of_text c.args.bytes.now) _ OutOfMemory c.in-Ok.ensures;
      no_fault = λ e. cc;
    }

pub returns-in-Err : goal.returns-in-Err
returns-in-Err c =
    let stop = c.refused_for.result in
    record {
      end = read_stops fault_line (cert_of_text c.args.bytes.now) c.in-Err.fault OutOfMemory stop refl c.in-Err.ensures
          c.refused_for.ensures;
      no_fault = λ e. tells_no_fault (fault_line c.in-Err.fault) stop c.refused_for.ensures cc;
    }

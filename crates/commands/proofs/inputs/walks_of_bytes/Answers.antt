use Rattle.commands.proofs.Common.{numbers_line, Walks, refl, walk_text_of}
use Rattle.walk_files.specs.declared.fault.WalkFault.TheVariants.{OutOfMemory}
use Rattle.commands.proofs.Checking.{read_passes, read_stops}
use Rattle.commands.proofs.Running.{tells_no_fault}
use Rattle.commands.proofs.inputs.walks_of_bytes.Goals as goal

pub returns-in-Ok : goal.returns-in-Ok
returns-in-Ok c =
    record {
      end = read_passes (numbers_line Walks) (walk_text_of c.args.bytes.now) _ OutOfMemory c.in-Ok.ensures;
      no_fault = λ e. cc;
    }

pub returns-in-Err : goal.returns-in-Err
returns-in-Err c =
    let stop = c.refused_for.result in
    record {
      end = read_stops (numbers_line Walks) (walk_text_of c.args.bytes.now) c.in-Err.fault OutOfMemory stop refl c.in-Err.ensures
          c.refused_for.ensures;
      no_fault = λ e. tells_no_fault (numbers_line Walks c.in-Err.fault) stop c.refused_for.ensures cc;
    }

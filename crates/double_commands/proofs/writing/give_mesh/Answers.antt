use Rattle.commands.proofs.Writing.{part_unsettled}
use Rattle.off_writer.specs.WrittenMeshes.{off_text}
use Rattle.double_commands.proofs.writing.give_mesh.Goals as goal

pub returns-in_default-flush-clause-write_fault : goal.returns-in_default-flush-clause-write_fault
returns-in_default-flush-clause-write_fault g c = λ _.
    part_unsettled c.write_off.new.sink (off_text c.args.mesh.now) c.in-Ok.ensures.ok c.in-Ok.ensures.never_falls
    c.in_default-flush.ensures.same_bytes c.in_default-flush.ensures.failed_only_on_fault

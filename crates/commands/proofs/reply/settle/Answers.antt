use Rattle.commands.proofs.Writing.{part_unsettled}
use Rattle.commands.proofs.Common.{reply_text}
use Rattle.commands.proofs.reply.settle.Goals as goal

pub returns-in_default-flush-clause-write_fault : goal.returns-in_default-flush-clause-write_fault
returns-in_default-flush-clause-write_fault g c = λ _.
    part_unsettled c.put_reply.new.out (reply_text c.args.reply.now) c.in-Ok.ensures.ok c.in-Ok.ensures.only_writes.never_falls
    c.in_default-flush.ensures.same_bytes c.in_default-flush.ensures.failed_only_on_fault

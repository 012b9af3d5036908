use Rattle.cover_commands.proofs.Common.{all-written, part-written}
use Rattle.surf_io.proofs.Appending.{on_err}
use Rattle.cover_commands.proofs.walk_writing.write_walks.Goals as goal

pub returns-clause-ok : goal.returns-clause-ok
returns-clause-ok g c = all-written c.write_out.new.sink c.write_out.result c.new-piece.ensures c.in_ok-put_walks.ensures.ok
    c.write_out.ensures.ok

pub returns-clause-failed : goal.returns-clause-failed
returns-clause-failed g c =
    on_err c.write_out.result (λ wrote. wrote.part)
    (part-written g.K.Sink.faults c.write_out.new.sink c.write_out.result c.new-piece.ensures c.in_ok-put_walks.ensures.ok
    c.in_ok-put_walks.ensures.only_writes.never_falls c.write_out.ensures.failed
    c.write_out.ensures.failed_only_on_fault)

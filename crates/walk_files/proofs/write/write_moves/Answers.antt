use Rattle.walk_files.proofs.Common.{on_ok, all-written, part-written}
use Rattle.surf_io.proofs.Appending.{on_err}
use Rattle.walk_files.proofs.RoundTrip.{list_of_text-list_text}
use Rattle.walk_files.proofs.write.write_moves.Goals as goal

pub returns-clause-ok : goal.returns-clause-ok
returns-clause-ok g c = all-written c.write_out.new.sink c.write_out.result c.new-piece.ensures c.in_ok-put_list.ensures.puts.ok
    c.write_out.ensures.ok

pub returns-clause-failed : goal.returns-clause-failed
returns-clause-failed g c =
    on_err c.write_out.result (λ wrote. wrote.part)
    (part-written g.K.Sink.faults c.write_out.new.sink c.write_out.result c.new-piece.ensures c.in_ok-put_list.ensures.puts.ok
    c.in_ok-put_list.ensures.puts.only_writes.never_falls c.write_out.ensures.failed
    c.write_out.ensures.failed_only_on_fault)

pub returns-clause-reads_back : goal.returns-clause-reads_back
returns-clause-reads_back g c =
    on_ok c.write_out.result (λ _ small. list_of_text-list_text c.args.list.now (c.in_ok-put_list.ensures.fits small))
    c.write_out.ensures.ok

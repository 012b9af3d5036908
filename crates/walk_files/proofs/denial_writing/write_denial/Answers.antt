use Rattle.walk_files.proofs.Common.{on_ok, all-written, part-written}
use Rattle.walk_files.proofs.DenialRoundTrip.{denial_of_text-denial_text}
use Rattle.walk_files.proofs.DenialParts.{reads_back}
use Rattle.walk_files.proofs.denial_writing.write_denial.Goals as goal

pub returns-clause-ok : goal.returns-clause-ok
returns-clause-ok g c = all-written c.write_out.new.sink c.write_out.result c.new-piece.ensures c.in_ok-put_denial.ensures.puts.ok
    c.write_out.ensures.ok

pub returns-clause-failed : goal.returns-clause-failed
returns-clause-failed g c =
    part-written g.K.Sink.faults c.write_out.new.sink c.write_out.result c.new-piece.ensures c.in_ok-put_denial.ensures.puts.ok
    c.in_ok-put_denial.ensures.puts.only_writes.never_falls c.write_out.ensures.failed
    c.write_out.ensures.failed_only_on_fault

pub returns-clause-reads_back : goal.returns-clause-reads_back
returns-clause-reads_back g c =
    on_ok c.write_out.result
    (λ _ forms. denial_of_text-denial_text c.args.denial.now (reads_back c.args.denial.now c.in_ok-put_denial.ensures.numbers forms))
    c.write_out.ensures.ok

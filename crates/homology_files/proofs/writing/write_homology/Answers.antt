use Rattle.homology_files.proofs.Common.{on_ok, all-written, part-written}
use Rattle.surf_io.proofs.Appending.{on_err}
use Rattle.homology_files.proofs.RoundTrip.{reads_back}
use Rattle.homology_files.proofs.writing.write_homology.Goals as goal

pub returns-clause-ok : goal.returns-clause-ok
returns-clause-ok g c = all-written c.write_out.new.sink c.write_out.result c.new-piece.ensures c.in_ok-put_certificate.ensures.puts.ok
    c.write_out.ensures.ok

pub returns-clause-failed : goal.returns-clause-failed
returns-clause-failed g c =
    on_err c.write_out.result (λ wrote. wrote.part)
    (part-written g.K.Sink.faults c.write_out.new.sink c.write_out.result c.new-piece.ensures c.in_ok-put_certificate.ensures.puts.ok
    c.in_ok-put_certificate.ensures.puts.only_writes.never_falls c.write_out.ensures.failed
    c.write_out.ensures.failed_only_on_fault)

pub returns-clause-reads_back : goal.returns-clause-reads_back
returns-clause-reads_back g c =
    on_ok c.write_out.result (λ _. reads_back c.args.certificate.now c.in_ok-put_certificate.ensures.fits) c.write_out.ensures.ok

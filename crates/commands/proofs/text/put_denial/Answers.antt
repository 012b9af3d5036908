use Rattle.commands.proofs.Common.{err_from_is_err_and, denial_text}
use Rattle.commands.proofs.Writing.{writes_behind, writes_no_line}
use Rattle.commands.proofs.text.put_denial.Goals as goal

pub returns-in_err-put_line : goal.returns-in_err-put_line
returns-in_err-put_line g c =
    let p = err_from_is_err_and c.from_residual.result c.from_residual.ensures.1 in
    rw p.1 (writes_no_line (denial_text c.args.denial.now) c.line_of.ensures c.in_err-put_line.ensures)

pub returns : goal.returns
returns g c =
    writes_behind (denial_text c.args.denial.now) c.line_of.ensures c.in_ok-put_line.ensures.ok c.in_ok-put_line.ensures.only_writes
    (record { ok = c.write_denial.ensures.ok; failed = c.write_denial.ensures.failed; only_writes = c.write_denial.ensures.only_writes })

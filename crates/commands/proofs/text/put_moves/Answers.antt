use Rattle.commands.proofs.Common.{err_from_is_err_and}
use Rattle.walk_files.specs.MoveTexts.{list_text}
use Rattle.commands.proofs.Writing.{both_err, writes_behind, writes_no_line}
use Rattle.commands.proofs.text.put_moves.Goals as goal

pub returns-in_err-put_line : goal.returns-in_err-put_line
returns-in_err-put_line g c =
    let p = err_from_is_err_and c.from_residual.result c.from_residual.ensures.1 in
    rw p.1 (writes_no_line (list_text c.args.list.now) c.line_of.ensures c.in_err-put_line.ensures)

pub returns : goal.returns
returns g c =
    writes_behind (list_text c.args.list.now) c.line_of.ensures c.in_ok-put_line.ensures.ok c.in_ok-put_line.ensures.only_writes
    (record {
      ok = c.write_moves.ensures.ok;
      failed =
          both_err c.write_moves.result (λ part fault. record { part = part; fault = fault }) c.write_moves.ensures.failed
          c.write_moves.ensures.failed_only_on_fault;
      only_writes = record { same_settled = c.write_moves.ensures.same_settled; never_falls = c.write_moves.ensures.never_falls };
    })

use Rattle.loop_commands.proofs.Common.{fault_stops, text_passes, text_stops, loops_line, sym, err_from_is_err_and, loops_fault}
use Rattle.commands.proofs.Running.{only_self, reads_faulty, reads_made, reads_then, tells_no_fault}
use Rattle.loop_commands.proofs.input.read_loops.Goals as goal

pub returns-in_err-walks-clause-reads : goal.returns-in_err-walks-clause-reads
returns-in_err-walks-clause-reads g c =
    let held = g.S.Shelf.held in
    let shelf = c.args.shelf.now in
    let stop = c.in_err-walks.field-0.0 in
    let p = err_from_is_err_and c.from_residual.result c.from_residual.ensures.1 in
    rw (p.1, p.2)
    (reads_then only_self c.in_err-walks.ensures
    (λ mesh table. text_stops loops_line (loops_fault mesh) (held shelf) c.args.name.now stop c.in_err-walks.ensures.end))

pub returns-in-Ok-clause-reads : goal.returns-in-Ok-clause-reads
returns-in-Ok-clause-reads g c =
    let held = g.S.Shelf.held in
    let shelf = c.args.shelf.now in
    reads_made c.in_ok-walks.ensures.only_reads
    (λ mesh table.
    text_passes loops_line (loops_fault mesh) (held shelf) c.args.name.now c.in_ok-walks.walks c.in_ok-walks.ensures.end
    (sym (c.in-Ok.ensures.fault mesh table)))

pub returns-in-Err-clause-reads : goal.returns-in-Err-clause-reads
returns-in-Err-clause-reads g c =
    let held = g.S.Shelf.held in
    let shelf = c.args.shelf.now in
    let fault = c.in-Err.fault in
    let stop = c.stop_for.result in
    reads_faulty c.in_ok-walks.ensures.only_reads (tells_no_fault (loops_line fault) stop c.stop_for.ensures)
    (λ mesh table.
    fault_stops loops_line (loops_fault mesh) (held shelf) c.args.name.now c.in_ok-walks.walks fault stop c.in_ok-walks.ensures.end
    (sym (c.in-Err.ensures.fault mesh table)) c.stop_for.ensures)

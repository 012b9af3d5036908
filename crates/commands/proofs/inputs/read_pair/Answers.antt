use Rattle.commands.proofs.Common.{pair_line, sym, err_from_is_err_and, pair_fault}
use Rattle.commands.proofs.Running.{only_self, reads_faulty, reads_made, reads_then, tells_no_fault}
use Rattle.commands.proofs.WalkInputs.{fault_stops, text_passes, text_stops}
use Rattle.commands.proofs.inputs.read_pair.Goals as goal

pub returns-in_err-walks-clause-reads : goal.returns-in_err-walks-clause-reads
returns-in_err-walks-clause-reads g c =
    let held = g.S.Shelf.held in
    let shelf = c.args.shelf.now in
    let stop = c.in_err-walks.field-0.0 in
    let p = err_from_is_err_and c.from_residual.result c.from_residual.ensures.1 in
    rw (p.1, p.2)
    (reads_then only_self c.in_err-walks.ensures
    (λ mesh table. text_stops pair_line (pair_fault mesh) (held shelf) c.args.name.now stop c.in_err-walks.ensures.end))

pub returns-in_err-check_pair-clause-reads : goal.returns-in_err-check_pair-clause-reads
returns-in_err-check_pair-clause-reads g c =
    let held = g.S.Shelf.held in
    let shelf = c.args.shelf.now in
    let fault = c.in_err-check_pair.field-0.0 in
    let p = err_from_is_err_and c.from_residual-in_err-check_pair.result c.from_residual-in_err-check_pair.ensures.1 in
    rw p.1
    (reads_faulty c.in_ok-walks.ensures.only_reads
    (tells_no_fault (pair_line fault) p.0 p.2)
    (λ mesh table.
    fault_stops pair_line (pair_fault mesh) (held shelf) c.args.name.now c.in_ok-walks.walks fault p.0 c.in_ok-walks.ensures.end
    (sym (c.in_err-check_pair.ensures.fault mesh table)) p.2))

pub returns-clause-reads : goal.returns-clause-reads
returns-clause-reads g c =
    let held = g.S.Shelf.held in
    let shelf = c.args.shelf.now in
    reads_made c.in_ok-walks.ensures.only_reads
    (λ mesh table.
    text_passes pair_line (pair_fault mesh) (held shelf) c.args.name.now c.in_ok-walks.walks c.in_ok-walks.ensures.end
    (sym (c.in_ok-check_pair.ensures.fault mesh table)))

use Rattle.cover_commands.proofs.Common.{only_self, reads_made, reads_then, seen, seen_lifts, err_from_is_err_and}
use Rattle.cover_commands.proofs.CoverChecks.{pair_stop, lifts_pass}
use Rattle.cover_commands.proofs.lifting.lift_read.Goals as goal

pub returns-in_err-walks : goal.returns-in_err-walks
returns-in_err-walks g c =
    let stop = c.in_err-walks.field-0.0 in
    let p = err_from_is_err_and c.from_residual.result c.from_residual.ensures.1 in
    rw (p.1, p.2)
    (reads_then only_self c.in_err-walks.ensures.reads
    (pair_stop (g.S.Shelf.held c.args.shelf.now) c.args.walks.now (seen c.args.on.now) stop
    (c.in_err-walks.ensures.reads.end c.args.on.now.faces c.requires.table)))

pub returns : goal.returns
returns g c =
    reads_made c.in_ok-walks.ensures.reads.only_reads
    (lifts_pass (g.S.Shelf.held c.args.shelf.now) c.args.walks.now (seen c.args.on.now) c.in_ok-walks.walks.walks
    (seen_lifts c.in_ok-lifts.field-0) (c.in_ok-walks.ensures.reads.end c.args.on.now.faces c.requires.table) c.in_ok-lifts.ensures)

use Rattle.commands.proofs.Common.{[], ◌++◌, sym, append-nil, err_from_is_err_and, puts-fails, puts-same, puts-then, spaced_number}
use Rattle.commands.proofs.odd_chain_line.put_link.Goals as goal

pub returns-in_err-put_behind : goal.returns-in_err-put_behind
returns-in_err-put_behind g c =
    let link = c.args.link in
    let failed = err_from_is_err_and c.from_residual.result c.from_residual.ensures.1 in
    puts-fails _ (spaced_number link.face.0) (spaced_number link.low.0 ++ (spaced_number link.high.0 ++ [])) failed.1
    c.in_err-put_behind.ensures.failed
    c.in_err-put_behind.ensures.only_writes

pub returns-in_err-put_behind-2 : goal.returns-in_err-put_behind-2
returns-in_err-put_behind-2 g c =
    let link = c.args.link in
    let failed = err_from_is_err_and c.from_residual-in_err-put_behind-2.result c.from_residual-in_err-put_behind-2.ensures.1 in
    puts-then c.in_ok-put_behind.ensures.ok c.in_ok-put_behind.ensures.only_writes
    (puts-fails _ (spaced_number link.low.0) (spaced_number link.high.0 ++ []) failed.1 c.in_err-put_behind-2.ensures.failed
    c.in_err-put_behind-2.ensures.only_writes)

pub returns : goal.returns
returns g c =
    puts-then c.in_ok-put_behind.ensures.ok c.in_ok-put_behind.ensures.only_writes
    (puts-then c.in_ok-put_behind-2.ensures.ok c.in_ok-put_behind-2.ensures.only_writes
    (puts-same (sym (append-nil (spaced_number c.args.link.high.0))) c.put_behind-3.ensures))

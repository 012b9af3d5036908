use Rattle.commands.proofs.Common.{[], refl, err_from_is_err_and}
use Rattle.commands.proofs.Writing.{writes_put, writes_unput}
use Rattle.commands.proofs.odd_chain_line.put_odd_chain.Goals as goal

pub returns-in_err-put_line : goal.returns-in_err-put_line
returns-in_err-put_line g c =
    let stopped = c.in_err-put_line.ensures in
    let failed = err_from_is_err_and c.from_residual.result c.from_residual.ensures.1 in
    rw failed.1
    (writes_unput {left = []} refl c.new-piece.ensures
    (record { ok = tt; failed = stopped.failed; only_writes = stopped.only_writes }))

pub returns : goal.returns
returns g c =
    let put = c.in_ok-put_line.ensures in
    let out = c.write_out.ensures in
    writes_put c.write_out.new.sink c.write_out.result c.new-piece.ensures put.ok put.only_writes out.ok out.failed
    out.failed_only_on_fault (record { same_settled = out.same_settled; never_falls = out.never_falls })

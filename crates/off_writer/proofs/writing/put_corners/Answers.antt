use Rattle.off_writer.proofs.Common.{arith, slice_get-get_or, err_from_is_err_and, each-none, each-more, each-fails, each-all, puts-same}
use Rattle.off_writer.proofs.RowLemmas.{corner_put, corners_put}
use Rattle.off_writer.proofs.writing.put_corners.Goals as goal

pub loop-corner-init : goal.loop-corner-init
loop-corner-init g c = each-none c.args.sink.now c.args.piece.now corner_put c.args.ring.now

pub returns-in_err-put_behind : goal.returns-in_err-put_behind
returns-in_err-put_behind g c =
    let here = slice_get-get_or c.args.ring.now c.loop-corner.corner-index _ (omega (arith, c.loop-corner-test.true)) in
    let failed = err_from_is_err_and c.from_residual.result c.from_residual.ensures.1 in
    puts-same (corners_put c.args.ring.now)
    (each-fails _ failed.1 c.loop-corner.invariant here c.in_err-put_behind.ensures.failed c.in_err-put_behind.ensures.only_writes)

pub loop-corner-preserved : goal.loop-corner-preserved
loop-corner-preserved g c =
    let here = slice_get-get_or c.args.ring.now c.loop-corner.corner-index _ (omega (arith, c.loop-corner-test.true)) in
    each-more c.loop-corner.invariant here c.in_ok-put_behind.ensures.ok c.in_ok-put_behind.ensures.only_writes

pub returns : goal.returns
returns g c = puts-same (corners_put c.args.ring.now) (each-all c.loop-corner.invariant c.loop-corner-test.false)

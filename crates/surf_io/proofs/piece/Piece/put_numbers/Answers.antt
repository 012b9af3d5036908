use Rattle.surf_io.proofs.Common.{arith, slice_get-get_or, err_from_is_err_and, spaced_number}
use Rattle.surf_io.proofs.Gathering.{each-none, each-more, each-fails, each-all}
use Rattle.surf_io.proofs.piece.Piece.put_numbers.Goals as goal

pub loop-number-init : goal.loop-number-init
loop-number-init g c = each-none c.args.sink.now c.args.self.now spaced_number c.args.numbers.now

pub returns-in_err-put_behind : goal.returns-in_err-put_behind
returns-in_err-put_behind g c =
    let here = slice_get-get_or c.args.numbers.now c.loop-number.number-index 0 (omega (arith, c.loop-number-test.true)) in
    let failed = err_from_is_err_and c.from_residual.result c.from_residual.ensures.1 in
    each-fails _ failed.1 c.loop-number.invariant here c.in_err-put_behind.ensures.failed c.in_err-put_behind.ensures.only_writes

pub loop-number-preserved : goal.loop-number-preserved
loop-number-preserved g c =
    let here = slice_get-get_or c.args.numbers.now c.loop-number.number-index 0 (omega (arith, c.loop-number-test.true)) in
    each-more c.loop-number.invariant here c.in_ok-put_behind.ensures.ok c.in_ok-put_behind.ensures.only_writes

pub returns : goal.returns
returns g c = each-all c.loop-number.invariant c.loop-number-test.false

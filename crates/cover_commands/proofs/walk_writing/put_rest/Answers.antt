use Rattle.cover_commands.proofs.Common.{drop, arith, err_from_is_err_and, each-none, each-more, each-fails, each-all, spaced_number}
use Rattle.cover_commands.proofs.WalkTexts.{behind_first, behind_length}
use Rattle.cover_commands.proofs.walk_writing.put_rest.Goals as goal

pub loop-place-init : goal.loop-place-init
loop-place-init g c = each-none c.args.sink.now c.args.piece.now spaced_number (drop 1 c.args.walk.now)

pub returns-in_err-put_behind : goal.returns-in_err-put_behind
returns-in_err-put_behind g c =
    let here =
    behind_first c.args.walk.now c.loop-place.place c.at.result.0 (omega (arith, c.darts-place-end.ensures.count)) c.at.ensures in
    let failed = err_from_is_err_and c.from_residual.result c.from_residual.ensures.1 in
    each-fails _ failed.1 c.loop-place.invariant here c.in_err-put_behind.ensures.failed c.in_err-put_behind.ensures.only_writes

pub loop-place-preserved : goal.loop-place-preserved
loop-place-preserved g c =
    let here =
    behind_first c.args.walk.now c.loop-place.place c.at.result.0 (omega (arith, c.darts-place-end.ensures.count)) c.at.ensures in
    each-more c.loop-place.invariant here c.in_ok-put_behind.ensures.ok c.in_ok-put_behind.ensures.only_writes

pub returns : goal.returns
returns g c = each-all c.loop-place.invariant (omega (arith, c.darts-place-end.ensures.count, behind_length c.args.walk.now))

use Rattle.off_writer.proofs.Common.{point_words, arith, length-replicate, err_from_is_err_and, replicate, gathers-put, each-none, each-more, each-stops, each-all, line_of}
use Rattle.off_writer.proofs.RowLemmas.{point_there}
use Rattle.off_writer.proofs.writing.put_points.Goals as goal

pub loop-init : goal.loop-init
loop-init g c = each-none c.args.sink.now c.args.piece.now line_of (replicate c.args.count point_words)

pub returns-in_err-make_room : goal.returns-in_err-make_room
returns-in_err-make_room g c =
    let failed = err_from_is_err_and c.from_residual.result c.from_residual.ensures.1 in
    each-stops _ failed.1 c.loop.invariant c.in_err-make_room.ensures.puts.failed c.in_err-make_room.ensures.puts.only_writes

pub loop-preserved : goal.loop-preserved
loop-preserved g c =
    each-more c.loop.invariant (point_there c.args.count c.loop.counter (omega arith))
    (gathers-put (line_of point_words) c.in_ok-make_room.ensures.puts.ok c.put.ensures)
    c.in_ok-make_room.ensures.puts.only_writes

pub returns : goal.returns
returns g c = each-all c.loop.invariant (omega (arith, length-replicate c.args.count point_words))

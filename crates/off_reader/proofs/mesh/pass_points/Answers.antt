use Rattle.off_reader.proofs.Common.{arith, err_from_is_err_and}
use Rattle.off_reader.proofs.MeshLemmas.{one_point, bad_point_line, no_point_line, all_points}
use Rattle.off_reader.proofs.mesh.pass_points.Goals as goal

pub returns-in_err-next_line-clause-points : goal.returns-in_err-next_line-clause-points
returns-in_err-next_line-clause-points c =
    let p = err_from_is_err_and c.from_residual.result c.from_residual.ensures.1 in
    rw (p.1, p.2)
    (no_point_line c.args.coordinates c.args.vertices c.args.cursor.now c.loop.cursor c.in_err-next_line.field-0.0 c.loop.counter
    c.loop-test.true c.in_err-next_line.ensures.line.0
    c.in_err-next_line.ensures.line.1 c.loop.invariant)

pub returns-in_err-pass_point-clause-points : goal.returns-in_err-pass_point-clause-points
returns-in_err-pass_point-clause-points c =
    let p = err_from_is_err_and c.from_residual-in_err-pass_point.result c.from_residual-in_err-pass_point.ensures.1 in
    rw (p.1, p.2)
    (bad_point_line c.args.coordinates c.args.vertices c.args.cursor.now c.loop.cursor c.next_line.new.cursor c.in_err-pass_point.field-0.0
    c.loop.counter c.loop-test.true
    c.in_ok-next_line.ensures.line c.in_err-pass_point.ensures.fault c.loop.invariant)

pub loop-preserved : goal.loop-preserved
loop-preserved c =
    one_point c.args.coordinates c.args.vertices c.args.cursor.now c.loop.cursor c.next_line.new.cursor c.pass_point.new.cursor
    c.loop.counter c.loop-test.true
    c.in_ok-next_line.ensures.line c.in_ok-next_line.ensures.end c.in_ok-pass_point.ensures.fault c.in_ok-pass_point.ensures.line
    c.loop.invariant

pub returns-clause-points : goal.returns-clause-points
returns-clause-points c =
    all_points c.args.coordinates c.args.vertices c.args.cursor.now c.loop.cursor c.loop.counter
    (omega (arith, c.loop-test.false, c.loop.auto.counter-end)) c.loop.invariant

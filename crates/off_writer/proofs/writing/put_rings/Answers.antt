use Rattle.off_writer.proofs.Common.{ap, arith, [], slice_get-get_or, err_from_is_err_and, each-none, each-more, each-fails, each-all, puts-same}
use Rattle.off_writer.proofs.RowLemmas.{ring_put, rings_put}
use Rattle.off_writer.proofs.writing.put_rings.Goals as goal

pub loop-face-init : goal.loop-face-init
loop-face-init g c = each-none c.args.sink.now c.args.piece.now ring_put c.args.faces.now.faces

pub returns-in_err-put_ring : goal.returns-in_err-put_ring
returns-in_err-put_ring g c =
    let here = slice_get-get_or c.args.faces.now.faces c.loop-face.face [] (omega (arith, c.len-face-end.ensures.count)) in
    let failed = err_from_is_err_and c.from_residual.result c.from_residual.ensures.1 in
    let puts = puts-same (ap ring_put c.ring.ensures.ring) c.in_err-put_ring.ensures in
    puts-same (rings_put c.args.faces.now.faces) (each-fails _ failed.1 c.loop-face.invariant here puts.failed puts.only_writes)

pub loop-face-preserved : goal.loop-face-preserved
loop-face-preserved g c =
    let here = slice_get-get_or c.args.faces.now.faces c.loop-face.face [] (omega (arith, c.len-face-end.ensures.count)) in
    let puts = puts-same (ap ring_put c.ring.ensures.ring) c.in_ok-put_ring.ensures in
    each-more c.loop-face.invariant here puts.ok puts.only_writes

pub returns : goal.returns
returns g c =
    puts-same (rings_put c.args.faces.now.faces) (each-all c.loop-face.invariant (omega (arith, c.len-face-end.ensures.count)))

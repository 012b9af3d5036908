use Rattle.off_writer.proofs.Common.{length, err_from_is_err_and, flat_map, decimal, gathers-put, puts-then, puts-fails, puts-same, spaced_number, numbers}
use Rattle.off_writer.proofs.RowLemmas.{ring_line}
use Rattle.off_writer.proofs.writing.put_ring.Goals as goal

pub returns-in_err-put_corners : goal.returns-in_err-put_corners
returns-in_err-put_corners g c =
    let failed = err_from_is_err_and c.from_residual-in_err-put_corners.result c.from_residual-in_err-put_corners.ensures.1 in
    puts-same (ring_line c.args.ring.now)
    (puts-then (gathers-put (decimal (length c.args.ring.now)) c.in_ok-make_room.ensures.puts.ok c.put_natural.ensures.put)
    c.in_ok-make_room.ensures.puts.only_writes
    (puts-fails _ (flat_map spaced_number (numbers c.args.ring.now)) _ failed.1 c.in_err-put_corners.ensures.failed
    c.in_err-put_corners.ensures.only_writes))

pub returns : goal.returns
returns g c =
    puts-same (ring_line c.args.ring.now)
    (puts-then (gathers-put (decimal (length c.args.ring.now)) c.in_ok-make_room.ensures.puts.ok c.put_natural.ensures.put)
    c.in_ok-make_room.ensures.puts.only_writes
    (puts-then c.in_ok-put_corners.ensures.ok c.in_ok-put_corners.ensures.only_writes c.end_line.ensures))

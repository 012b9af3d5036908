use Rattle.surf_io.proofs.Common.{err_from_is_err_and, flat_map, spaced_number}
use Rattle.surf_io.proofs.Gathering.{gathers-put, puts-then, puts-fails, puts-same, line_of-numbers}
use Rattle.surf_io.proofs.piece.Piece.put_line.Goals as goal

pub returns-in_err-put_numbers : goal.returns-in_err-put_numbers
returns-in_err-put_numbers g c =
    let failed = err_from_is_err_and c.from_residual-in_err-put_numbers.result c.from_residual-in_err-put_numbers.ensures.1 in
    puts-same (line_of-numbers c.args.word.now c.args.numbers.now)
    (puts-then (gathers-put c.args.word.now c.in_ok-make_room.ensures.puts.ok c.put.ensures) c.in_ok-make_room.ensures.puts.only_writes
    (puts-fails _ (flat_map spaced_number c.args.numbers.now) _ failed.1 c.in_err-put_numbers.ensures.failed
    c.in_err-put_numbers.ensures.only_writes))

pub returns : goal.returns
returns g c =
    puts-same (line_of-numbers c.args.word.now c.args.numbers.now)
    (puts-then (gathers-put c.args.word.now c.in_ok-make_room.ensures.puts.ok c.put.ensures) c.in_ok-make_room.ensures.puts.only_writes
    (puts-then c.in_ok-put_numbers.ensures.ok c.in_ok-put_numbers.ensures.only_writes c.end_line.ensures))

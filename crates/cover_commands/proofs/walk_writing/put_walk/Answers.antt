use Rattle.cover_commands.proofs.Common.{drop, arith, err_from_is_err_and, flat_map, decimal, gathers-put, puts-then, puts-fails, puts-same, spaced_number}
use Rattle.cover_commands.proofs.WalkTexts.{line_put}
use Rattle.cover_commands.proofs.walk_writing.put_walk.Goals as goal

pub returns-in_err-put_rest : goal.returns-in_err-put_rest
returns-in_err-put_rest g c =
    let failed = err_from_is_err_and c.from_residual-in_err-put_rest.result c.from_residual-in_err-put_rest.ensures.1 in
    puts-same (line_put c.args.walk.now c.from.result c.darts.ensures.starts (omega (arith, c.from.ensures, c.at.ensures)))
    (puts-then (gathers-put (decimal c.from.result) c.in_ok-make_room.ensures.puts.ok c.put_natural.ensures.put)
    c.in_ok-make_room.ensures.puts.only_writes
    (puts-fails _ (flat_map spaced_number (drop 1 c.args.walk.now)) _ failed.1 c.in_err-put_rest.ensures.failed
    c.in_err-put_rest.ensures.only_writes))

pub returns : goal.returns
returns g c =
    puts-same (line_put c.args.walk.now c.from.result c.darts.ensures.starts (omega (arith, c.from.ensures, c.at.ensures)))
    (puts-then (gathers-put (decimal c.from.result) c.in_ok-make_room.ensures.puts.ok c.put_natural.ensures.put)
    c.in_ok-make_room.ensures.puts.only_writes
    (puts-then c.in_ok-put_rest.ensures.ok c.in_ok-put_rest.ensures.only_writes c.end_line.ensures))

use Rattle.cover_commands.proofs.Common.{walk_line, err_from_is_err_and, puts-then, puts-fails}
use Rattle.cover_commands.proofs.walk_writing.put_walks.Goals as goal

pub returns-in_err-put_walk : goal.returns-in_err-put_walk
returns-in_err-put_walk g c =
    let failed = err_from_is_err_and c.from_residual.result c.from_residual.ensures.1 in
    puts-fails _ _ (walk_line c.args.lifts.now.second) failed.1 c.in_err-put_walk.ensures.failed c.in_err-put_walk.ensures.only_writes

pub returns : goal.returns
returns g c = puts-then c.in_ok-put_walk.ensures.ok c.in_ok-put_walk.ensures.only_writes c.put_walk-2.ensures

use Rattle.commands.proofs.Common.{err_from_is_err_and, codes, flat_map, gathers-put, puts-fails, puts-same, puts-then}
use Rattle.commands.proofs.GatheredLines.{link_text, odd_chain_line-put}
use Rattle.commands.proofs.odd_chain_line.put_line.Goals as goal

pub returns-in_err-put_links : goal.returns-in_err-put_links
returns-in_err-put_links g c =
    let failed = err_from_is_err_and c.from_residual-in_err-put_links.result c.from_residual-in_err-put_links.ensures.1 in
    puts-same (odd_chain_line-put c.args.chain.now)
    (puts-then (gathers-put (codes "refused: not orientable") c.in_ok-make_room.ensures.puts.ok c.put.ensures)
    c.in_ok-make_room.ensures.puts.only_writes
    (puts-fails _ (flat_map link_text c.args.chain.now) _ failed.1 c.in_err-put_links.ensures.failed
    c.in_err-put_links.ensures.only_writes))

pub returns : goal.returns
returns g c =
    puts-same (odd_chain_line-put c.args.chain.now)
    (puts-then (gathers-put (codes "refused: not orientable") c.in_ok-make_room.ensures.puts.ok c.put.ensures)
    c.in_ok-make_room.ensures.puts.only_writes
    (puts-then c.in_ok-put_links.ensures.ok c.in_ok-put_links.ensures.only_writes c.end_line.ensures))

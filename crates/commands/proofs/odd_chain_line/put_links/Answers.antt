use Rattle.commands.proofs.Common.{arith, err_from_is_err_and, each-none, each-more, each-fails, each-all}
use Rattle.commands.proofs.GatheredLines.{link_text}
use Rattle.commands.proofs.odd_chain_line.put_links.Goals as goal

pub loop-k-init : goal.loop-k-init
loop-k-init g c = each-none c.args.out.now c.args.piece.now link_text c.args.chain.now

pub returns-in_err-put_link : goal.returns-in_err-put_link
returns-in_err-put_link g c =
    let failed = err_from_is_err_and c.from_residual.result c.from_residual.ensures.1 in
    each-fails _ failed.1 c.loop-k.invariant c.at.ensures c.in_err-put_link.ensures.failed c.in_err-put_link.ensures.only_writes

pub loop-k-preserved : goal.loop-k-preserved
loop-k-preserved g c =
    each-more c.loop-k.invariant c.at.ensures c.in_ok-put_link.ensures.ok c.in_ok-put_link.ensures.only_writes

pub returns : goal.returns
returns g c = each-all c.loop-k.invariant (omega (arith, c.loop-k-test.false, c.len-k-end.ensures.count))

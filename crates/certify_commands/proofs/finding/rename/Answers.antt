use Rattle.certify_commands.proofs.Common.{◌∙◌, arith, component_at}
use Rattle.std.proofs.lemmas.Option.{get_or_from_slice_get}
use Rattle.certify_commands.proofs.FoundLemmas.{renamed_more}
use Rattle.certify_commands.proofs.finding.rename.Goals as goal

pub loop-k-preserved : goal.loop-k-preserved
loop-k-preserved c =
    let moves = c.args.list.now.moves in
    let k = c.loop-k.k in
    c.in_ok-push.ensures.ok
    ∙ renamed_more (component_at c.args.parts.now c.args.place) moves k c.args.list.now.peak c.at.result c.rename_move.result
    c.loop-k.renamed (omega (arith, c.loop-k-test.true, c.len-k-end.ensures))
    (get_or_from_slice_get moves k c.at.result c.at.result c.at.ensures) c.rename_move.ensures c.loop-k.invariant

use Rattle.folded_lists.proofs.Common.{lower_move, ◌≡◌, ◌∙◌, length, arith, get_or_from_slice_get, ap, PeakedMoves}
use Rattle.folded_lists.proofs.LoweredLemmas.{all_lowered, leads_below, leads_below_lifts, length-lower_list, lower_list, lowered_more}
use Rattle.folded_lists.proofs.lowering.lower.Goals as goal

pub loop-k-preserved : goal.loop-k-preserved
loop-k-preserved c =
    let moves = c.args.list.now.moves in
    let k = c.loop-k.k in
    c.in_ok-push.ensures.ok
    ∙ lowered_more (lower_move c.args.faces.now.count (length c.args.faces.now.faces)) moves k c.args.list.now.peak c.at.result
    c.lower_move.result c.loop-k.below (omega (arith, c.loop-k-test.true, c.len-k-end.ensures))
    (get_or_from_slice_get moves k c.at.result c.at.result c.at.ensures) c.lower_move.ensures c.loop-k.invariant

below_is : (c : goal.After-loop-k) → c.loop-k.below ≡ lower_list c.args.faces.now c.args.list.now
below_is c = all_lowered c.args.faces.now c.args.list.now c.loop-k.below c.loop-k.k (omega arith) c.loop-k.invariant

pub returns-clause-leads : goal.returns-clause-leads
returns-clause-leads c = leads_below c.args.faces.now c.args.list.now c.loop-k.below c.len.ensures.valid (below_is c)

pub returns-clause-lifts : goal.returns-clause-lifts
returns-clause-lifts c = leads_below_lifts c.args.faces.now c.args.list.now c.loop-k.below c.len.ensures.valid (below_is c)

pub returns-clause-many : goal.returns-clause-many
returns-clause-many c = length-lower_list c.args.faces.now c.args.list.now c.loop-k.below (below_is c)

pub returns-clause-peak : goal.returns-clause-peak
returns-clause-peak c = ap (λ (l : PeakedMoves). l.peak) c.loop-k.invariant

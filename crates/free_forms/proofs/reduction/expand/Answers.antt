use Rattle.free_forms.proofs.Common.{◌+◌, ◌≤◌, length, arith, MOST_PEAK}
use Rattle.free_forms.proofs.ExpandLemmas.{IsRead, pushed_length, expands_made, length_numbers, length_coming}
use Rattle.free_forms.proofs.reduction.expand.Goals as goal
use Rattle.free_forms.proofs.reduction.expand.Goals.{In_ok-push_others}

-- what is pushed
read : (c : In_ok-push_others) → IsRead c.args.side c.args.reduction.now.last.0 c.corner_along-corner.result c.eq-forward.result
    c.args.reduction.now.pending.items c.push_others.new.pending.items c.faces-faces.result.now
read c = grind arith

-- the walk is not too long
few : (c : In_ok-push_others) → length c.args.reduction.now.earlier.items + length c.push_others.new.pending.items ≤ MOST_PEAK
few c = grind (arith, pushed_length, read, length_numbers, length_coming)

pub overflow_cast-len : goal.overflow_cast-len
overflow_cast-len c = omega (arith, few (goal.at.overflow_cast-len c).In_ok-push_others, c.len.ensures, c.push_others.new.pending.ok.0)

pub overflow_add-at : goal.overflow_add-at
overflow_add-at c = grind (arith, few)

pub returns : goal.returns
returns c = grind (arith, expands_made, read)

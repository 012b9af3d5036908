use Rattle.std.proofs.lemmas.Bool.{both_ways}
use Rattle.answered_lists.proofs.ListLemmas.{limits_above, list_below, none_above, pair_above, parted}
use Rattle.answered_lists.proofs.list_by_cover.Goals as goal

pub returns-then-not-have_common_ends : goal.returns-then-not-have_common_ends
returns-then-not-have_common_ends c =
    parted c.args.covered c.args.first.now c.args.second.now c.in_ok-one.one c.in_ok-other.other c.requires.covered c.requires.walks
    c.in_ok-one.ensures c.in_ok-other.ensures
    (λ ends. both_ways c.have_common_ends.result c.if-not-have_common_ends.true (c.have_common_ends.ensures.1 ends))

pub list_on_signed-requires-clause-walks : goal.list_on_signed-requires-clause-walks
list_on_signed-requires-clause-walks c =
    pair_above c.args.covered c.args.first.now c.args.second.now c.in_ok-one.one c.in_ok-other.other c.requires.covered c.requires.walks
    c.in_ok-one.ensures c.in_ok-other.ensures
    (c.have_common_ends.ensures.0 c.if-not-have_common_ends.false)

pub list_on_signed-requires-clause-limits : goal.list_on_signed-requires-clause-limits
list_on_signed-requires-clause-limits c =
    limits_above c.args.covered c.args.first.now c.args.second.now c.in_ok-one.one c.in_ok-other.other c.requires.covered c.requires.walks
    c.in_ok-one.ensures c.in_ok-other.ensures
    c.requires.limits

pub returns-in-Some : goal.returns-in-Some
returns-in-Some c =
    list_below c.args.covered c.args.first.now c.args.second.now c.in_ok-one.one c.in_ok-other.other c.requires.covered c.requires.walks
    c.in_ok-one.ensures c.in_ok-other.ensures
    c.in-Some.list c.in_ok-lower-in-Some.field-0 c.in_ok-lower-in-Some.ensures.lifts c.in_ok-lower-in-Some.ensures.peak
    (rw c.in-Some.is at c.in_ok-list.ensures)

pub returns : goal.returns
returns c =
    none_above c.args.covered c.args.first.now c.args.second.now c.in_ok-one.one c.in_ok-other.other c.requires.covered c.requires.walks
    c.in_ok-one.ensures c.in_ok-other.ensures
    (c.have_common_ends.ensures.0 c.if-not-have_common_ends.false) (rw c.in-None.is at c.in_ok-list.ensures)

use Rattle.answered_lists.proofs.ListLemmas.{folded_on_own, none_on_closed, pair_on_closed}
use Rattle.compact_surfaces.specs.Answered.{mesh_of_answered}
use Rattle.answered_lists.proofs.list_if_homotopic.Goals as goal

pub list_on_closed-requires-clause-walks : goal.list_on_closed-requires-clause-walks
list_on_closed-requires-clause-walks c =
    pair_on_closed (mesh_of_answered c.args.surface.closed) c.args.surface.own c.args.first.now c.args.second.now c.requires.surface.own
    c.requires.walks

pub returns-in-None-clause-list : goal.returns-in-None-clause-list
returns-in-None-clause-list c =
    none_on_closed (mesh_of_answered c.args.surface.closed) c.args.surface.own c.args.first.now c.args.second.now c.requires.surface.own
    c.requires.walks (rw c.in-None.is at c.in_ok-list.ensures)

pub returns-in_ok-list_folded-in-Some-own-clause-list : goal.returns-in_ok-list_folded-in-Some-own-clause-list
returns-in_ok-list_folded-in-Some-own-clause-list c =
    folded_on_own (mesh_of_answered c.args.surface.closed) c.args.surface.own c.in-Some-own.own c.args.first.now c.args.second.now
    c.in-Some-2.list c.in_ok-list_folded-in-Some-own.field-0 c.in-Some-own.is c.requires.surface.own c.requires.walks
    (rw c.in-Some-2.is at c.in_ok-list.ensures)
    (rw c.in-Some-own.own-is at c.in_ok-list_folded-in-Some-own.ensures.leads) c.in_ok-list_folded-in-Some-own.ensures.peak

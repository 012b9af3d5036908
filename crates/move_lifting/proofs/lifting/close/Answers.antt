use Rattle.move_lifting.proofs.Common.{LeadsAtPeak, ◌++◌, List, drop, sym, ◌∙◌, subst, arith, length-drop, IfOk-weaker, numbers, VertexName}
use Rattle.move_lifting.proofs.ContractLemmas.{both_ok}
use Rattle.move_lifting.proofs.ExpandLemmas.{length-numbers}
use Rattle.move_lifting.proofs.LiftLemmas.{closed_from}
use Rattle.move_lifting.proofs.lifting.close.Goals as goal

pub returns-clause-leads : goal.returns-clause-leads
returns-clause-leads c =
    IfOk-weaker c.reduce_all.result _ _
    (λ track goes mesh w.
    goes mesh c.args.first.now (drop 1 c.args.second.now) (length-drop 1 c.args.second.now ∙ sym c.darts-behind.ensures.count)
    (subst (λ (l : List VertexName). LeadsAtPeak mesh c.args.first.now c.append_back.new.moves (numbers l ++ drop 1 c.args.second.now))
    (sym c.deref.ensures.value)
    (closed_from mesh c.args.first.now c.args.second.now (numbers c.in_ok-closed.closed.items) (numbers c.append_back.new.vertices.items)
    c.new-moves.result c.append_back.new.moves c.darts.result w c.in_ok-closed.ensures c.new-moves.ensures c.darts.ensures.count
    c.in_ok-append_back.ensures.leads)))
    c.reduce_all.ensures.leads

pub returns-clause-long : goal.returns-clause-long
returns-clause-long c = grind (arith, length-numbers)

pub returns-clause-peak : goal.returns-clause-peak
returns-clause-peak c = grind (arith, length-numbers)

pub returns-clause-count : goal.returns-clause-count
returns-clause-count c = grind (arith, both_ok, length-numbers)

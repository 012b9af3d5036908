use Rattle.walk_files.proofs.Common.{sym, ap, ◌∙◌, err_from_is_err_and, Some, result_err, of_entry, open_fault, NotTwo}
use Rattle.walk_files.proofs.ClosedPairLemmas.{says_loops}
use Rattle.walk_files.proofs.TwoWalkLemmas.{two_are, two_fault-entry, two_fault-both}
use Rattle.walk_files.proofs.loops.check_loops.Goals as goal

pub returns-in_err-check_walks-clause-fault : goal.returns-in_err-check_walks-clause-fault
returns-in_err-check_walks-clause-fault c = λ mesh table.
    let failed = err_from_is_err_and c.from_residual.result c.from_residual.ensures.1 in
    ap result_err failed.1 ∙ ap Some failed.2
    ∙ two_fault-entry NotTwo of_entry open_fault mesh c.args.walks.now.walks c.in_err-check_walks.field-0.0
    (sym c.len-count.ensures.count ∙ c.if-count-ne2.false) (c.in_err-check_walks.ensures mesh table)

pub returns-in_err-check_walks-clause-loops : goal.returns-in_err-check_walks-clause-loops
returns-in_err-check_walks-clause-loops c = λ mesh table.
    says_loops mesh c.args.walks.now.walks c.from_residual.result c.len-count.ensures.filled
    (returns-in_err-check_walks-clause-fault c mesh table)

pub returns-clause-fault : goal.returns-clause-fault
returns-clause-fault c = λ mesh table.
    let walks = c.args.walks.now.walks in
    let two = two_are walks c.at.result.now c.at-2.result.now (sym c.len-count.ensures.count ∙ c.if-count-ne2.false) c.at.ensures
    c.at-2.ensures in
    c.check_closed.ensures
    ∙ two_fault-both NotTwo of_entry open_fault mesh walks c.at.result.now c.at-2.result.now two (c.in_ok-check_walks.ensures mesh table)

pub returns-clause-loops : goal.returns-clause-loops
returns-clause-loops c = λ mesh table.
    says_loops mesh c.args.walks.now.walks c.check_closed.result c.len-count.ensures.filled (returns-clause-fault c mesh table)

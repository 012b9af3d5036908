use Rattle.trial_commands.proofs.Common.{failed_end}
use Rattle.trial_commands.proofs.Trying.{cell_stops, loops_stop, pairs_answered}
use Rattle.trial_commands.proofs.trial.decide_pairs.Goals as goal

pub returns-in_err-cell-clause-end : goal.returns-in_err-cell-clause-end
returns-in_err-cell-clause-end c =
    failed_end _ _ _ _ c.from_residual-in_err-cell.ensures.1
    (cell_stops c.args.decider.now c.args.grid c.in_ok-commuting.commuting c.in_err-cell.field-0.0 c.in_ok-commuting.ensures.end
    c.in_err-cell.ensures.end)

pub returns-in_err-loops-clause-end : goal.returns-in_err-loops-clause-end
returns-in_err-loops-clause-end c =
    failed_end _ _ _ _ c.from_residual-in_err-loops.ensures.1
    (loops_stop c.args.decider.now c.args.grid c.in_ok-commuting.commuting c.in_ok-cell.cell c.in_err-loops.field-0.0
    c.in_ok-commuting.ensures.end c.in_ok-cell.ensures.end c.in_err-loops.ensures.end)

pub returns-clause-end : goal.returns-clause-end
returns-clause-end c =
    pairs_answered c.args.decider.now c.args.grid
    (record { commuting = c.in_ok-commuting.commuting; cell = c.in_ok-cell.cell; loops = c.in_ok-loops.loops })
    c.in_ok-commuting.ensures.end c.in_ok-cell.ensures.end c.in_ok-loops.ensures.end

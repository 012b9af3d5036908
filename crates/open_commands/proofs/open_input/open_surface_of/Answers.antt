use Rattle.open_commands.proofs.Common.{failed_end, inr}
use Rattle.open_commands.proofs.OpenInputs.{turned_stop}
use Rattle.open_commands.proofs.open_input.open_surface_of.Goals as goal

pub returns-in_err-check_orientable-clause-end : goal.returns-in_err-check_orientable-clause-end
returns-in_err-check_orientable-clause-end c =
    failed_end _ _ _ _ c.from_residual-in_err-check_orientable.ensures.1
    (turned_stop c.args.faces c.in_err-check_orientable.field-0.0 c.in_ok-check_surface.ensures.end
    c.in_err-check_orientable.ensures.end)

pub returns-clause-end : goal.returns-clause-end
returns-clause-end c = inr (c.args.faces, c.in_ok-check_surface.ensures.end, c.in_ok-check_orientable.ensures.end)

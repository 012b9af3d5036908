use Rattle.surface_commands.proofs.Surfaces.{turned_stops}
use Rattle.surface_commands.proofs.surface_input.surface_of.Goals as goal

pub returns-in-Err-NotOrientable-clause-end : goal.returns-in-Err-NotOrientable-clause-end
returns-in-Err-NotOrientable-clause-end c =
    let arm = c.in-Err-NotOrientable in
    turned_stops c.args.faces arm.field-0 arm.chain (cc) arm.ensures.none

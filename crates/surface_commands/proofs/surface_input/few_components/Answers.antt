use Rattle.surface_commands.proofs.Common.{tells_no_fault, components_line}
use Rattle.surface_commands.proofs.Surfaces.{few_pass, many_stop}
use Rattle.surface_commands.proofs.surface_input.few_components.Goals as goal

pub returns-then-count-most-clause-end : goal.returns-then-count-most-clause-end
returns-then-count-most-clause-end c =
    many_stop c.args.most c.args.surface.now.faces c.in_ok-parts.parts c.len-count.result c.refused.result c.in_ok-parts.ensures
    c.len-count.ensures c.if-count-most.true c.refused.ensures

pub returns-then-count-most-clause-no_fault : goal.returns-then-count-most-clause-no_fault
returns-then-count-most-clause-no_fault c =
    λ e. tells_no_fault (components_line c.len-count.result) c.refused.result c.refused.ensures cc

pub returns-clause-end : goal.returns-clause-end
returns-clause-end c =
    few_pass c.args.most c.args.surface.now.faces c.in_ok-parts.parts c.len-count.result c.in_ok-parts.ensures c.len-count.ensures
    c.if-count-most.false

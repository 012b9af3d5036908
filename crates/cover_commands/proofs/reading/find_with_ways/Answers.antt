use Rattle.cover_commands.proofs.Common.{failed_end}
use Rattle.cover_commands.proofs.CoverChecks.{ways_stop, ways_pass}
use Rattle.cover_commands.proofs.reading.find_with_ways.Goals as goal

pub returns-in_err-ways-clause-end : goal.returns-in_err-ways-clause-end
returns-in_err-ways-clause-end c =
    failed_end _ _ _ _ c.from_residual-in_err-ways.ensures.1
    (ways_stop c.args.faces c.in_err-ways.field-0.0 c.in_ok-check_manifold.ensures.end c.in_err-ways.ensures.end)

pub returns-clause-end : goal.returns-clause-end
returns-clause-end c = ways_pass c.args.faces c.in_ok-ways.ways c.in_ok-check_manifold.ensures.end c.in_ok-ways.ensures.end

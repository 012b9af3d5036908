use Rattle.cover_commands.proofs.Common.{seen_lifts, walk_lines}
use Rattle.commands.proofs.Writing.{part_unsettled}
use Rattle.cover_commands.proofs.writing.give_walks.Goals as goal

pub returns-in_default-flush-clause-write_fault : goal.returns-in_default-flush-clause-write_fault
returns-in_default-flush-clause-write_fault g c = λ _.
    part_unsettled c.write_walks.new.sink (walk_lines (seen_lifts c.args.lifts.now)) c.in-Ok.ensures.ok c.in-Ok.ensures.never_falls
    c.in_default-flush.ensures.same_bytes c.in_default-flush.ensures.failed_only_on_fault

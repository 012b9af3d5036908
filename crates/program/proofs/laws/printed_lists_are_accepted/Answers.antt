use Rattle.program.proofs.Printed.{printed_list_accepted}
use Rattle.program.proofs.laws.printed_lists_are_accepted.Goals as goal

pub returns : goal.returns
returns c = printed_list_accepted

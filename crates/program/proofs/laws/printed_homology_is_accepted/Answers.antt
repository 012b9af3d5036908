use Rattle.program.proofs.Printed.{printed_homology_accepted}
use Rattle.program.proofs.laws.printed_homology_is_accepted.Goals as goal

pub returns : goal.returns
returns c = printed_homology_accepted

use Rattle.program.proofs.Printed.{printed_accepted}
use Rattle.program.proofs.laws.printed_certificates_are_accepted.Goals as goal

pub returns : goal.returns
returns c = printed_accepted

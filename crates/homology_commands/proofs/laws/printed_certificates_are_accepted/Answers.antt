use Rattle.homology_commands.proofs.PrintedLemmas.{printed_accepted}
use Rattle.homology_commands.proofs.laws.printed_certificates_are_accepted.Goals as goal

pub returns : goal.returns
returns c = printed_accepted

use Rattle.open_commands.proofs.OpenOutcomes.{certified_open_so}
use Rattle.open_commands.proofs.laws.certify_open_answers.Goals as goal

pub returns : goal.returns
returns c = certified_open_so

use Rattle.open_commands.proofs.OpenOutcomes.{decided_open_so}
use Rattle.open_commands.proofs.laws.decide_open_answers.Goals as goal

pub returns : goal.returns
returns c = decided_open_so

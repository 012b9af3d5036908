use Rattle.homology_commands.proofs.HomologyOutcomes.{homology_so}
use Rattle.homology_commands.proofs.laws.homology_answers.Goals as goal

pub returns : goal.returns
returns c = homology_so

use Rattle.verify_homology_commands.proofs.VerifyHomologyOutcomes.{homology_verified}
use Rattle.verify_homology_commands.proofs.laws.verify_homology_answers.Goals as goal

pub returns : goal.returns
returns c = homology_verified

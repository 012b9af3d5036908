use Rattle.cover_commands.proofs.CoverAnswers.{lifts_told}
use Rattle.cover_commands.proofs.laws.lifts_are_told.Goals as goal

pub returns : goal.returns
returns c = lifts_told

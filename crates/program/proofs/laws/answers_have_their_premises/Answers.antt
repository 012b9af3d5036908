use Rattle.program.proofs.PremiseInputs.{premises_met}
use Rattle.program.proofs.laws.answers_have_their_premises.Goals as goal

pub returns : goal.returns
returns c = premises_met

use Rattle.program.proofs.Common.{Trial}
use Rattle.trial_commands.proofs.TrialOutcomes.{tried}
use Rattle.program.proofs.Rows.{row_answered}
use Rattle.program.proofs.laws.trial_answers.Goals as goal

pub returns : goal.returns
returns c = λ files words status text a.
    tried files words status text (λ genus grid is. row_answered files words (Trial genus grid) status text a is)

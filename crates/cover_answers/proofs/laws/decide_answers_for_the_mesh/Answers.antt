use Rattle.pair_commands.proofs.DecideOutcomes.{decided_so}
use Rattle.program.specs.Commands.{Decide}
use Rattle.program.proofs.Rows.{row_answered}
use Rattle.cover_answers.proofs.CoveredAnswers.{decided_here}
use Rattle.cover_answers.proofs.laws.decide_answers_for_the_mesh.Goals as goal

pub returns : goal.returns
returns c = λ files words status text a mesh bits first second.
    decided_here files words status text mesh bits first second
    (decided_so files words status text (λ name walks is. row_answered files words (Decide name walks) status text a is))

use Rattle.homology_commands.proofs.HomologyOutcomes.{homology_so}
use Rattle.program.specs.Commands.{Homology}
use Rattle.program.proofs.Rows.{row_answered}
use Rattle.double_answers.proofs.DoubledAnswers.{homology_here}
use Rattle.double_answers.proofs.laws.homology_answers_for_the_surface.Goals as goal

pub returns : goal.returns
returns c = λ files words status text a mesh first second.
    homology_here files words status text mesh first second
    (homology_so files words status text (λ name walks is. row_answered files words (Homology name walks) status text a is))

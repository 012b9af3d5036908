use Rattle.program.proofs.Common.{Homology}
use Rattle.homology_commands.proofs.HomologyOutcomes.{homology_so}
use Rattle.program.proofs.Rows.{row_answered}
use Rattle.program.proofs.laws.homology_answers.Goals as goal

pub returns : goal.returns
returns c = λ files words status text a.
    homology_so files words status text (λ mesh walks is. row_answered files words (Homology mesh walks) status text a is)

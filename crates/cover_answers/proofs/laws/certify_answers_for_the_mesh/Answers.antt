use Rattle.certify_commands.proofs.CertifyOutcomes.{certified_so}
use Rattle.program.specs.Commands.{Certify}
use Rattle.program.proofs.Rows.{row_answered}
use Rattle.cover_answers.proofs.CoveredAnswers.{certified_here}
use Rattle.cover_answers.proofs.laws.certify_answers_for_the_mesh.Goals as goal

pub returns : goal.returns
returns c = λ files words status text a mesh bits first second.
    certified_here files words status text mesh bits first second
    (certified_so files words status text (λ name walks is. row_answered files words (Certify name walks) status text a is))

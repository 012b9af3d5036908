use Rattle.program.proofs.Common.{Surface}
use Rattle.surface_commands.proofs.SurfaceOutcomes.{measured}
use Rattle.program.proofs.Rows.{row_answered}
use Rattle.program.proofs.laws.surface_answers.Goals as goal

pub returns : goal.returns
returns c = λ files words status text a.
    measured files words status text (λ mesh is. row_answered files words (Surface mesh) status text a is)

use Rattle.loop_commands.proofs.LoopOutcomes.{loops_so}
use Rattle.program.specs.Commands.{Loops}
use Rattle.program.proofs.Rows.{row_answered}
use Rattle.double_answers.proofs.DoubledAnswers.{loops_here}
use Rattle.double_answers.proofs.laws.loops_answers_for_the_surface.Goals as goal

pub returns : goal.returns
returns c = λ files words status text a mesh first second.
    loops_here files words status text mesh first second
    (loops_so files words status text (λ name walks is. row_answered files words (Loops name walks) status text a is))

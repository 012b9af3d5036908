use Rattle.program.proofs.Common.{Loops}
use Rattle.loop_commands.proofs.LoopOutcomes.{loops_so}
use Rattle.program.proofs.Rows.{row_answered}
use Rattle.program.proofs.laws.loops_answers.Goals as goal

pub returns : goal.returns
returns c = λ files words status text a.
    loops_so files words status text (λ mesh walks is. row_answered files words (Loops mesh walks) status text a is)

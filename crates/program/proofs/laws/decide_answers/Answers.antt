use Rattle.program.proofs.Common.{decided_so, Decide}
use Rattle.program.proofs.Rows.{row_answered}
use Rattle.program.proofs.laws.decide_answers.Goals as goal

pub returns : goal.returns
returns c = λ files words status text a.
    decided_so files words status text (λ mesh walks is. row_answered files words (Decide mesh walks) status text a is)

use Rattle.program.proofs.Common.{decided_open_so, DecideOpen}
use Rattle.program.proofs.Rows.{row_answered}
use Rattle.program.proofs.laws.decide_open_answers.Goals as goal

pub returns : goal.returns
returns c = λ files words status text a.
    decided_open_so files words status text (λ mesh walks is. row_answered files words (DecideOpen mesh walks) status text a is)

use Rattle.program.proofs.Common.{Reduce, reduced}
use Rattle.program.proofs.Rows.{row_answered}
use Rattle.program.proofs.laws.reduce_answers.Goals as goal

pub returns : goal.returns
returns c = λ files words status text a.
    reduced files words status text (λ degree list is. row_answered files words (Reduce degree list) status text a is)

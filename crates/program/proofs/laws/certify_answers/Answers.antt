use Rattle.program.proofs.Common.{certified_so, Certify}
use Rattle.program.proofs.Rows.{row_answered}
use Rattle.program.proofs.laws.certify_answers.Goals as goal

pub returns : goal.returns
returns c = λ files words status text a.
    certified_so files words status text (λ mesh walks is. row_answered files words (Certify mesh walks) status text a is)

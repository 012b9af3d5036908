use Rattle.program.proofs.Common.{certified_open_so, CertifyOpen}
use Rattle.program.proofs.Rows.{row_answered}
use Rattle.program.proofs.laws.certify_open_answers.Goals as goal

pub returns : goal.returns
returns c = λ files words status text a.
    certified_open_so files words status text (λ mesh walks is. row_answered files words (CertifyOpen mesh walks) status text a is)

use Rattle.program.proofs.Common.{certified_so, decided_so, Decide, Certify}
use Rattle.program.proofs.HeadlineLemmas.{headline}
use Rattle.program.proofs.Rows.{row_answered}
use Rattle.program.proofs.laws.headline.Goals as goal

pub returns : goal.returns
returns c = λ files words status text a.
    headline files words status text
    (decided_so files words status text (λ mesh walks is. row_answered files words (Decide mesh walks) status text a is))
    (certified_so files words status text (λ mesh walks is. row_answered files words (Certify mesh walks) status text a is))

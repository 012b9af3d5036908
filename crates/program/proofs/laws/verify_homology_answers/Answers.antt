use Rattle.program.proofs.Common.{VerifyHomology, homology_verified}
use Rattle.program.proofs.Rows.{row_answered}
use Rattle.program.proofs.laws.verify_homology_answers.Goals as goal

pub returns : goal.returns
returns c = λ files words status text a.
    homology_verified files words status text
    (λ mesh walks certificate is. row_answered files words (VerifyHomology mesh walks certificate) status text a is)

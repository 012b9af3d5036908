use Rattle.program.proofs.Common.{Verify}
use Rattle.verify_commands.proofs.VerifyOutcomes.{verified, denial_verified}
use Rattle.program.proofs.Rows.{row_answered}
use Rattle.program.proofs.laws.verify_answers.Goals as goal

pub returns : goal.returns
returns c = record {
  moves = λ files words status text a. verified files words status text
      (λ mesh walks certificate is. row_answered files words (Verify mesh walks certificate) status text a is);
  denial = λ files words status text a. denial_verified files words status text
      (λ mesh walks certificate is. row_answered files words (Verify mesh walks certificate) status text a is);
}

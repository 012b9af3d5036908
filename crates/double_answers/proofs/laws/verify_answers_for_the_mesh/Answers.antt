use Rattle.doubling.proofs.KeptClasses.{keeps_homotopy}
use Rattle.doubling.specs.Doubles.{double_of}
use Rattle.verify_commands.proofs.VerifyOutcomes.{verified, denial_verified}
use Rattle.program.specs.Commands.{Verify}
use Rattle.program.proofs.Rows.{row_answered}
use Rattle.double_answers.proofs.laws.verify_answers_for_the_mesh.Goals as goal

pub returns : goal.returns
returns c = record {
  denial = λ files words status text a mesh first second denial polygons one two input yes led.
      (denial_verified files words status text
      (λ mesh walks certificate is. row_answered files words (Verify mesh walks certificate) status text a is)).different
      (double_of mesh) first second denial input yes ((keeps_homotopy mesh first second polygons one two).1 led);
  moves = λ files words status text a mesh first second list polygons one two input yes.
      let judged = verified files words status text
      (λ mesh walks certificate is. row_answered files words (Verify mesh walks certificate) status text a is) in
      (keeps_homotopy mesh first second polygons one two).0
      (list.moves, ((judged.accepted (double_of mesh) first second list input).0 yes).0);
}

use Rattle.orientation_cover.specs.Turns.{cover_by, lift_by}
use Rattle.orientation_cover.proofs.LiftLemmas.{lifts_homotopic}
use Rattle.verify_commands.proofs.VerifyOutcomes.{verified, denial_verified}
use Rattle.program.specs.Commands.{Verify}
use Rattle.program.proofs.Rows.{row_answered}
use Rattle.cover_answers.proofs.laws.verify_answers_for_the_mesh.Goals as goal

pub returns : goal.returns
returns c = record {
  denial = λ files words status text a mesh bits first second denial polygons ways one two input yes led.
      (denial_verified files words status text
      (λ mesh walks certificate is. row_answered files words (Verify mesh walks certificate) status text a is)).different
      (cover_by mesh bits) (lift_by mesh bits first) (lift_by mesh bits second) denial input yes
      ((lifts_homotopic mesh bits first second polygons ways one two).1 led);
  moves = λ files words status text a mesh bits first second list polygons ways one two input yes.
      let judged = verified files words status text
      (λ mesh walks certificate is. row_answered files words (Verify mesh walks certificate) status text a is) in
      (lifts_homotopic mesh bits first second polygons ways one two).0 (
        list.moves,
        ((judged.accepted (cover_by mesh bits) (lift_by mesh bits first) (lift_by mesh bits second) list input).0 yes).0,
      );
}

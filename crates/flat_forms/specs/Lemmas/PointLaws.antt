-- The laws of the form with one state.
use Rattle.std.proofs.Common.{refl, arith}
use Rattle.turn_words.specs.Wheels.{IsWheel}
use Rattle.turn_words.specs.FormLaws.{StartsWell, StaysWell, ThereAndBack, AcrossQuads}

pub point_starts : StartsWell {State = Unit {0}} IsWheel (λ places _. IsWheel places) (λ _. Unit {0}) (λ _. 0) tt
point_starts = record { belongs = λ places own. own; at_vertex = tt; size_zero = refl }

pub point_stays : StaysWell {State = Unit {0}} (λ places _. IsWheel places) (λ _. Unit {0}) (λ _. 0) (λ _ _ _. tt)
point_stays = record {
  belongs = λ places s i own below. own;
  at_vertex = λ places s i j own vertex i_below j_below. tt;
  size_grows = λ places s i own below. omega arith;
}

pub point_there_and_back : ThereAndBack {State = Unit {0}} (λ places _. IsWheel places) (λ _ _ _. tt)
point_there_and_back places s i own below = refl

pub point_across : AcrossQuads {State = Unit {0}} (λ places _. IsWheel places) (λ _. Unit {0}) (λ _ _ _. tt)
point_across places s a c own vertex quad = refl

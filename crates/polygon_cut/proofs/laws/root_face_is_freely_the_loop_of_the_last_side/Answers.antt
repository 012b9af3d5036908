use Rattle.polygon_cut.proofs.FreeLawLemmas.{led_round, led_back_round}
use Rattle.polygon_cut.proofs.laws.root_face_is_freely_the_loop_of_the_last_side.Goals as goal

pub returns : goal.returns
returns c = record { forward = led_round; back = led_back_round }

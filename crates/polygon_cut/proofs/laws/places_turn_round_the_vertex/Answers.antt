use Rattle.polygon_cut.proofs.LawLemmas.{leftover, four_places}
use Rattle.polygon_cut.proofs.laws.places_turn_round_the_vertex.Goals as goal

pub returns : goal.returns
returns c = record { leftover = leftover; four = four_places }

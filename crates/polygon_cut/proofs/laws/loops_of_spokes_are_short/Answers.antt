use Rattle.polygon_cut.proofs.ShortWalkLemmas.{spokes_short}
use Rattle.polygon_cut.proofs.laws.loops_of_spokes_are_short.Goals as goal

pub returns : goal.returns
returns c = spokes_short

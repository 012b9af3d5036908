use Rattle.polygon_cut.proofs.ShortFrontLemmas.{short_behind, short_behind_one, short_behind_two}
use Rattle.polygon_cut.proofs.laws.loops_are_put_in_along_short_ways.Goals as goal

pub returns : goal.returns
returns c = record { behind = short_behind; behind_two = short_behind_two; behind_one = short_behind_one }

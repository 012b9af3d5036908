use Rattle.joined_loops.proofs.RoundsKept.{rounds-left}
use Rattle.joined_loops.proofs.laws.spokes_take_away_one_round_each_at_most.Goals as goal

pub returns : goal.returns
returns c = rounds-left

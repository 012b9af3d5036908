use Rattle.polygon_cut.proofs.RingArcLemmas.{walk_by_loop, dart_by_loop, darts_joined}
use Rattle.polygon_cut.proofs.laws.ring_walks_are_freely_two_spokes.Goals as goal

pub returns : goal.returns
returns c = record { walk = walk_by_loop; dart = dart_by_loop; joined = darts_joined }

use Rattle.orientation_cover.proofs.ClassLemmas.{TellsUpTo}
use Rattle.orientation_cover.proofs.ways.ways_round.Given as goal

abbrev pub invariant-loop-corner : goal.invariant-loop-corner
invariant-loop-corner l = TellsUpTo l.total l.least.items l.against.items l.corner

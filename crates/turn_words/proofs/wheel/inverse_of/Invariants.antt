use Rattle.turn_words.proofs.Filling.{Filling}
use Rattle.turn_words.proofs.wheel.inverse_of.Given as goal

abbrev pub invariant-loop-spoke : goal.invariant-loop-spoke
invariant-loop-spoke l = Filling l.places l.spoke l.spokes.items l.twice

use Rattle.walk_translate.proofs.Common.{AreSpokesBelow}
use Rattle.walk_translate.proofs.dart_spokes.spokes_of_darts.Given as goal

-- the spokes along the edges so far
abbrev pub invariant-loop-edge : goal.invariant-loop-edge
invariant-loop-edge l = AreSpokesBelow l.faces l.good l.sides l.edge l.spokes.items

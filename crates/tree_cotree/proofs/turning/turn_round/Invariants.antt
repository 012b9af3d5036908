use Rattle.tree_cotree.proofs.Common.{rotations_of, length, dart_numbers}
use Rattle.tree_cotree.proofs.TurningLemmas.{IsPartlyTurned}
use Rattle.tree_cotree.proofs.turning.turn_round.Given as goal

abbrev pub invariant-loop-dart : goal.invariant-loop-dart
invariant-loop-dart l =
    IsPartlyTurned (rotations_of l.surface) l.fn.from ((rotations_of l.surface).face l.fn.start.0) l.from (dart_numbers l.way.items)

abbrev pub decreases-loop-dart : goal.decreases-loop-dart
decreases-loop-dart l = length l.way.items

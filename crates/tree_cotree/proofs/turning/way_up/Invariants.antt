use Rattle.tree_cotree.proofs.Common.{rotations_of, ◌≡◌, ◌-◌, ◌<◌, ℕ, length, dart_numbers, IsWay}
use Rattle.tree_cotree.proofs.turning.way_up.Given as goal

abbrev pub invariant-loop-dart : goal.invariant-loop-dart
invariant-loop-dart l = record {
  dart : (e : ℕ) × (e < (rotations_of l.surface).darts) × ((rotations_of l.surface).face e ≡ l.face.0);
  way : IsWay (rotations_of l.surface) l.from ((rotations_of l.surface).face l.fn.start.0) (dart_numbers l.way.items) l.face.0;
}

-- a way that goes on passes no face twice
abbrev pub decreases-loop-dart : goal.decreases-loop-dart
decreases-loop-dart l = length l.from - length l.way.items

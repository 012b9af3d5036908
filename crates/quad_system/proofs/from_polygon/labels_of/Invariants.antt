use Rattle.std.specs.Prelude.{◌≡◌, take}
use Rattle.quad_system.proofs.from_polygon.labels_of.Given as goal

abbrev pub invariant-loop-dart : goal.invariant-loop-dart
invariant-loop-dart l = l.labels.items ≡ take l.dart l.polygon.labels

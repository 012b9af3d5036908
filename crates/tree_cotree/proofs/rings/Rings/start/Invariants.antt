use Rattle.tree_cotree.proofs.Common.{next_of, twin_of, ◌≡◌, ◌<◌, ℕ, length, get_or, dart_numbers}
use Rattle.tree_cotree.proofs.rings.Rings.start.Given as goal

abbrev pub invariant-loop-dart : goal.invariant-loop-dart
invariant-loop-dart l = record {
  long : length l.after.items ≡ l.dart;
  turns : (d : ℕ) → d < l.dart → get_or (dart_numbers l.after.items) d 0 ≡ next_of l.surface (twin_of l.surface d);
}

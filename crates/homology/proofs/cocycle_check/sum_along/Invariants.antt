use Rattle.homology.proofs.Common.{dart_number, along, AreTableNumbers, MOST_NUMBER, ◌≡◌, ℕ, suc, ◌*◌, ◌≤◌, take, ℤ, unsigned_abs}
use Rattle.homology.proofs.cocycle_check.sum_along.Given as goal

-- the darts so far
abbrev pub invariant-loop-dart : goal.invariant-loop-dart
invariant-loop-dart l =
    (unsigned_abs l.sum ≤ MOST_NUMBER * l.dart)
    × ((number : ℕ → ℕ → ℤ) → AreTableNumbers l.sides l.of_edge number → l.sum ≡ along (dart_number number) (take (suc l.dart) l.walk))

use Rattle.homology.proofs.Common.{side_numbers, AreTableNumbers, AreNumbersWithin, MOST_NUMBER, ◌≡◌, ℕ, ℤ, take}
use Rattle.homology.proofs.side_numbers.numbers_round.Given as goal

-- the sides so far
abbrev pub invariant-loop-dart : goal.invariant-loop-dart
invariant-loop-dart l =
    AreNumbersWithin MOST_NUMBER l.of_side.items
    × ((number : ℕ → ℕ → ℤ) → AreTableNumbers l.sides l.of_edge number → l.of_side.items ≡ take l.dart (side_numbers l.faces number))

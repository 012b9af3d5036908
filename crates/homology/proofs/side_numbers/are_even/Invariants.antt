use Rattle.homology.proofs.Common.{side_numbers, AreTableNumbers, ◌≡◌, ℕ, ℤ, take}
use Rattle.homology.proofs.side_numbers.are_even.Given as goal

-- the sides so far have the numbers that the edges give them
abbrev pub invariant-loop-dart : goal.invariant-loop-dart
invariant-loop-dart l =
    (number : ℕ → ℕ → ℤ) → AreTableNumbers l.sides l.of_edge number → take l.dart l.of_side ≡ take l.dart (side_numbers l.faces number)

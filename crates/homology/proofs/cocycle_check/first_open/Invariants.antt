use Rattle.homology.proofs.Common.{face_sum, AreTableNumbers, ◌≡◌, ℕ, ◌<◌, ℤ, pos}
use Rattle.homology.proofs.cocycle_check.first_open.Given as goal

-- round the faces so far the numbers add up to 0
abbrev pub invariant-loop-face : goal.invariant-loop-face
invariant-loop-face l =
    (number : ℕ → ℕ → ℤ) → AreTableNumbers l.sides l.of_edge number → (f : ℕ) → f < l.face → face_sum l.faces number f ≡ pos 0

use Rattle.homology_deciding.proofs.Common.{number_at, height_of, listed, ◌≡◌, ◌<◌, ℕ, ℤ, length, Some}
use Rattle.homology_deciding.proofs.heights.as_listed.Given as goal

-- the faces so far
abbrev pub invariant-loop-face : goal.invariant-loop-face
invariant-loop-face l =
    (length l.numbers.items ≡ l.face)
    × ((f : ℕ) (height : ℤ) → f < l.face → height_of l.heights f ≡ Some height
    → number_at l.numbers.items f ≡ listed l.tree.surface.now f height)

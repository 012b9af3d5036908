use Rattle.homology.proofs.Common.{dart_number, AreTableNumbers, MOST_NUMBER, ◌≡◌, ℕ, ◌*◌, ◌≤◌, ℤ, unsigned_abs, face_at}
use Rattle.homology.proofs.AlongLemmas.{first_sides}
use Rattle.homology.proofs.cocycle_check.sum_round.Given as goal

-- the sides so far
abbrev pub invariant-loop-at : goal.invariant-loop-at
invariant-loop-at l =
    (unsigned_abs l.sum ≤ MOST_NUMBER * l.at)
    × ((number : ℕ → ℕ → ℤ) → AreTableNumbers l.sides l.of_edge number
    → l.sum ≡ first_sides (dart_number number) (face_at l.faces l.face.0) l.at)

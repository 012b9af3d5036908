use Rattle.homology.proofs.Common.{face_number, number_at, ◌≡◌, ℕ, length, take}
use Rattle.homology.proofs.numbers.numbers_by_face.Given as goal

-- an entry for each face, with the numbers of the lines so far
abbrev pub invariant-loop-k : goal.invariant-loop-k
invariant-loop-k l =
    (length l.of_face.items ≡ length l.faces.faces)
    × ((f : ℕ) → number_at l.of_face.items f ≡ face_number (take l.k l.numbers) f)

use Rattle.widening.proofs.Common.{ℕ, ◌<◌, ◌≤◌, length, face_at}
use Rattle.widening.proofs.filling.zeros.Given as goal

abbrev pub invariant-loop-face : goal.invariant-loop-face
invariant-loop-face l = (f : ℕ) → f < l.face → length (face_at l.faces f) ≤ l.most

use Rattle.homology.proofs.Common.{HasFace, FaceNumber, ℕ, ◌<◌, get_or}
use Rattle.homology.proofs.numbers.first_missing.Given as goal

-- the faces so far are there
abbrev pub invariant-loop-k : goal.invariant-loop-k
invariant-loop-k l = (j : ℕ) (d : FaceNumber) → j < l.k → HasFace l.faces (get_or l.numbers j d)

use Rattle.homology.proofs.Common.{HasEdge, EdgeNumber, ℕ, ◌<◌, get_or}
use Rattle.homology.proofs.numbers.first_stray.Given as goal

-- the pairs so far are edges
abbrev pub invariant-loop-k : goal.invariant-loop-k
invariant-loop-k l = (j : ℕ) (d : EdgeNumber) → j < l.k → HasEdge l.faces (get_or l.numbers j d)

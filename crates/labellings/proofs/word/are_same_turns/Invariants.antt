use Rattle.labellings.proofs.Common.{◌≡◌, ℕ, ◌<◌, get_or}
use Rattle.labellings.proofs.word.are_same_turns.Given as goal

abbrev pub invariant-loop-k : goal.invariant-loop-k
invariant-loop-k l = (j : ℕ) → j < l.k → get_or l.one j 0 ≡ get_or l.other j 0

use Rattle.orientation.proofs.Common.{count_unseen, ◌+◌, length}
use Rattle.orientation.proofs.SearchLemmas.{IsGrowing}
use Rattle.orientation.proofs.search.grow.Given as goal

abbrev pub invariant-loop-face : goal.invariant-loop-face
invariant-loop-face l = IsGrowing l.faces l.fn.trees l.fn.root.0 l.trees l.waiting

-- each face waits once at most
abbrev pub decreases-loop-face : goal.decreases-loop-face
decreases-loop-face l = count_unseen l.trees + length l.waiting

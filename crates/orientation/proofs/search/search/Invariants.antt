use Rattle.orientation.proofs.SearchLemmas.{IsThrough}
use Rattle.orientation.proofs.search.search.Given as goal

abbrev pub invariant-loop-face : goal.invariant-loop-face
invariant-loop-face l = IsThrough l.faces l.trees l.waiting l.face

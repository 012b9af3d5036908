use Rattle.orientation.proofs.SearchLemmas.{IsExploring}
use Rattle.orientation.proofs.search.explore.Given as goal

abbrev pub invariant-loop-at : goal.invariant-loop-at
invariant-loop-at l = IsExploring l.faces l.initial.trees l.initial.waiting l.trees l.waiting l.face l.at

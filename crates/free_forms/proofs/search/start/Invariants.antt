use Rattle.free_forms.proofs.Common.{view_of_search, IsParentSearch, IsStartedUpTo}
use Rattle.free_forms.proofs.search.start.Given as goal

abbrev pub invariant-loop-edge : goal.invariant-loop-edge
invariant-loop-edge l = record {
  search : IsParentSearch l.faces (view_of_search l.search);
  started : IsStartedUpTo l.sides (view_of_search l.search) l.edge;
}

use Rattle.free_forms.proofs.Common.{view_of_search, IsParentSearch, Grows, IsClosedUpTo, ◌-◌, length}
use Rattle.free_forms.proofs.search.spread.Given as goal

abbrev pub invariant-loop-at : goal.invariant-loop-at
invariant-loop-at l = record {
  search : IsParentSearch l.faces (view_of_search l.search);
  grows : Grows (view_of_search l.initial.search) (view_of_search l.search);
  closed : IsClosedUpTo l.faces (view_of_search l.search) l.at;
}

abbrev pub decreases-loop-at : goal.decreases-loop-at
decreases-loop-at l = length l.faces.faces - l.at

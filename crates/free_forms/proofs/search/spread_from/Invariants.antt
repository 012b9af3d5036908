use Rattle.free_forms.proofs.Common.{view_of_search, IsParentSearch, Grows, NeighboursReached}
use Rattle.free_forms.proofs.search.spread_from.Given as goal

abbrev pub invariant-loop-at : goal.invariant-loop-at
invariant-loop-at l = record {
  search : IsParentSearch l.faces (view_of_search l.search);
  grows : Grows (view_of_search l.initial.search) (view_of_search l.search);
  reached : NeighboursReached l.faces (view_of_search l.search) l.face.0 l.at;
}

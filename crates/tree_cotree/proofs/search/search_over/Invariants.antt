use Rattle.tree_cotree.proofs.Common.{◌+◌, ◌-◌, length, maps_of, node_in, crosses, dart_numbers, waiting_darts}
use Rattle.tree_cotree.proofs.WaitingLemmas.{IsUnderway}
use Rattle.tree_cotree.proofs.search.search_over.Given as goal

abbrev pub invariant-loop-search : goal.invariant-loop-search
invariant-loop-search l =
    IsUnderway (maps_of l.graph) (node_in l.graph) (crosses l.graph) l.bound l.root
    (dart_numbers l.search.order.items) (waiting_darts l.search.waiting.far.items l.search.waiting.near.items) l.search.from.items

-- each node waits once at most
abbrev pub decreases-loop-search : goal.decreases-loop-search
decreases-loop-search l = l.bound - length l.search.order.items + length
    (waiting_darts l.search.waiting.far.items l.search.waiting.near.items)

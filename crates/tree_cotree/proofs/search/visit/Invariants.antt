use Rattle.tree_cotree.proofs.Common.{length, maps_of, node_in, turn_in, crosses, dart_numbers, waiting_darts}
use Rattle.tree_cotree.proofs.SearchLemmas.{IsVisiting}
use Rattle.tree_cotree.proofs.search.visit.Given as goal

abbrev pub invariant-loop-turn : goal.invariant-loop-turn
invariant-loop-turn l =
    IsVisiting (maps_of l.graph) (node_in l.graph) (crosses l.graph)
    (turn_in l.graph)
    (length l.fn.search.from.items) l.root (dart_numbers l.fn.search.order.items)
    (waiting_darts l.fn.search.waiting.far.items l.fn.search.waiting.near.items) (dart_numbers l.search.order.items)
    (waiting_darts l.search.waiting.far.items l.search.waiting.near.items) l.search.from.items l.first.0 l.dart.0 l._turn

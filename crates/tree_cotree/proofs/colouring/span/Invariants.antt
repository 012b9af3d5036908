use Rattle.tree_cotree.proofs.Common.{kind_over}
use Rattle.tree_cotree.proofs.ColouringLemmas.{IsSpanning}
use Rattle.tree_cotree.proofs.colouring.span.Given as goal

abbrev pub invariant-loop-early : goal.invariant-loop-early
invariant-loop-early l = IsSpanning l.surface l.nodes (kind_over l.nodes) l.fn.kinds.items 0 l.classes l.kinds.items

abbrev pub invariant-loop-edge : goal.invariant-loop-edge
invariant-loop-edge l = IsSpanning l.surface l.nodes (kind_over l.nodes) l.fn.kinds.items l.edge l.classes l.kinds.items

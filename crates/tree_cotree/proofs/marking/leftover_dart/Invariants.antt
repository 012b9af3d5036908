use Rattle.tree_cotree.proofs.Common.{◌≡◌, ◌<◌, ℕ, false, has_kind, Left}
use Rattle.tree_cotree.proofs.marking.leftover_dart.Given as goal

abbrev pub invariant-loop-edge : goal.invariant-loop-edge
invariant-loop-edge l = (k : ℕ) → k < l.edge → has_kind l.kinds Left k ≡ false

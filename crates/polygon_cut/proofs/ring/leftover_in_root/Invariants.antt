use Rattle.polygon_cut.proofs.Common.{edge_of, ◌≡◌, ◌<◌, ◌+◌, ℕ, false, without_ways, is_left}
use Rattle.polygon_cut.proofs.ring.leftover_in_root.Given as goal

abbrev pub invariant-loop-at : goal.invariant-loop-at
invariant-loop-at l = (k : ℕ) → k < l.at → is_left (without_ways l.colouring) (edge_of l.surface (l.first + k)) ≡ false

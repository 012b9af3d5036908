use Rattle.spoke_rings.proofs.Common.{ring_turn, ◌≡◌, ◌<◌, ℕ, length, minus}
use Rattle.spoke_rings.proofs.ring.Ring.all_fall.Given as goal

abbrev pub invariant-loop-at : goal.invariant-loop-at
invariant-loop-at l = (k : ℕ) → k < l.at → ring_turn l.wheel l.self k ≡ minus (length l.wheel) 2

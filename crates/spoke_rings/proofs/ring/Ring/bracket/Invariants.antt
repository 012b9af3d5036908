use Rattle.spoke_rings.proofs.Common.{ring_turn, ◌≡◌, ◌+◌, ◌-◌, ◌<◌, ◌≤◌, ℕ}
use Rattle.spoke_rings.proofs.ring.Ring.bracket.Given as goal

abbrev pub invariant-loop-twos : goal.invariant-loop-twos
invariant-loop-twos l =
    (l.twos + 1 ≤ l.len) × ((i : ℕ) → i < l.twos → ring_turn l.wheel l.self (l.len - 1 - i) ≡ 2)

abbrev pub decreases-loop-twos : goal.decreases-loop-twos
decreases-loop-twos l = l.len - l.twos

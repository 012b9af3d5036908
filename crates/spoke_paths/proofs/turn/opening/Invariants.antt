use Rattle.spoke_paths.proofs.Common.{turn_of, ◌≡◌, ℕ, ◌-◌, ◌<◌, ◌≤◌, length}
use Rattle.spoke_paths.proofs.turn.opening.Given as goal

abbrev pub invariant-loop-at : goal.invariant-loop-at
invariant-loop-at l = record {
  within : l.at < length l.path;
  run : (k : ℕ) → l.at ≤ k → k < length l.path - 1 → turn_of l.wheel l.path k ≡ l.two;
}

abbrev pub decreases-loop-at : goal.decreases-loop-at
decreases-loop-at l = l.at

use Rattle.move_lifting.proofs.Common.{AreWaysUp, ◌≡◌, ℕ, List, true, ◌++◌, ◌∷◌, length, is_used, numbers}
use Rattle.move_lifting.proofs.tree_way.way_up.Given as goal

abbrev pub invariant-loop-step : goal.invariant-loop-step
invariant-loop-step l = record {
  used : is_used l.surface.mesh l.last.0 ≡ true;
  long : length l.way.items ≡ l._step;
  so_far : (root : ℕ) (ways : ℕ → List ℕ) → AreWaysUp l.surface l.split root ways
      → l.fn.start.0 ∷ ways l.fn.start.0 ≡ numbers l.way.items ++ (l.last.0 ∷ ways l.last.0);
}

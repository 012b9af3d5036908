use Rattle.homology_deciding.proofs.Common.{height_of, AreHeights, EndsAtHeight, ◌≡◌, ℕ, true, length, is_some}
use Rattle.homology_deciding.proofs.heights.settle.Given as goal

-- the heights so far, and the way that is left
abbrev pub invariant-loop-up : goal.invariant-loop-up
invariant-loop-up l =
    record {
      heights : AreHeights l.tree l.counts l.heights;
      kept : (f : ℕ) → is_some (height_of l.fn.heights f) ≡ true → is_some (height_of l.heights f) ≡ true;
      ends : (f : ℕ) → EndsAtHeight l.tree l.fn.heights f l.fn.way.items → EndsAtHeight l.tree l.heights f l.way.items;
    }

abbrev pub decreases-loop-up : goal.decreases-loop-up
decreases-loop-up l = length l.way.items

use Rattle.homology_deciding.proofs.Common.{height_of, AreHeights, ◌≡◌, ◌<◌, ℕ, true, [], is_some}
use Rattle.homology_deciding.proofs.heights.settle_all.Given as goal

-- the faces so far have heights
abbrev pub invariant-loop-face : goal.invariant-loop-face
invariant-loop-face l =
    AreHeights l.tree l.counts l.heights × ((f : ℕ) → f < l.face → is_some (height_of l.heights f) ≡ true) × (l.way.items ≡ [])

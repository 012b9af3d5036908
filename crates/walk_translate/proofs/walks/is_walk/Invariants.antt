use Rattle.walk_translate.proofs.Common.{◌≡◌, ℕ, ◌+◌, ◌<◌, true, get_or, is_edge}
use Rattle.walk_translate.proofs.walks.is_walk.Given as goal

-- the darts so far
abbrev pub invariant-loop-dart : goal.invariant-loop-dart
invariant-loop-dart l = (k : ℕ) → k < l.dart → is_edge l.faces (get_or l.walk k 0) (get_or l.walk (k + 1) 0) ≡ true
